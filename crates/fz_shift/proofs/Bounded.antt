-- A small factor times a number within the limits is not far off.
use Rattle.std.proofs.Common.{arith}
use Rattle.std.specs.Prelude.{ℤ, pos, negsuc, neg_ℤ, ◌*ℤ◌, ◌≤ℤ◌}
use Rattle.std.proofs.lemmas.Int.{ints}
use Rattle.fz_num.proofs.Products.{mul_le, mul_ge}

pub near_product : (k u : ℤ) → neg_ℤ (pos 255) ≤ℤ k → k ≤ℤ pos 255 → neg_ℤ (pos 2147483648) ≤ℤ u → u ≤ℤ pos 2147483647
    → (neg_ℤ (pos 600000000000) ≤ℤ (k *ℤ u)) × ((k *ℤ u) ≤ℤ pos 600000000000)
near_product (pos n) u low high least most =
    let up = mul_le n u (pos 2147483647) most in
    let down = mul_le n (neg_ℤ (pos 2147483648)) u least in
    (omega (arith, ints, high, down), omega (arith, ints, high, up))
near_product (negsuc n) u low high least most =
    let up = mul_ge n (neg_ℤ (pos 2147483648)) u least in
    let down = mul_ge n u (pos 2147483647) most in
    (omega (arith, ints, low, down), omega (arith, ints, low, up))
