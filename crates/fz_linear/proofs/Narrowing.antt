-- The steps of a sum in 64 bits.
use Rattle.std.proofs.Common.{◌≡◌, ℕ, ◌≤◌, ◌+◌, ◌*◌, ◌^◌, arith}
use Rattle.std.specs.Prelude.{ℤ, pos, ◌+ℤ◌, unsigned_abs}
use Rattle.std.proofs.lemmas.Int.{ints}

-- a sum so far, and what is left of the whole, whose factors have this weight
pub record IsNarrowed (sum rest whole : ℤ) (weight : ℕ) : Type 0 where
  pub is : (sum +ℤ rest) ≡ whole
  pub near : (unsigned_abs sum + weight * 2 ^ 31) ≤ 2 ^ 62

pub narrowed_more : (sum rest whole product behind total : ℤ) (weight size less : ℕ) → IsNarrowed sum rest whole weight → rest ≡ (product +ℤ behind) → total ≡ (sum +ℤ product)
    → weight ≡ (size + less) → unsigned_abs product ≤ size * 2 ^ 31 → unsigned_abs total ≤ unsigned_abs sum + unsigned_abs product → IsNarrowed total behind whole less
narrowed_more sum rest whole product behind total weight size less so_far e f g small near = record {
  is = (let h = so_far.is in omega (arith, ints, e, f, h));
  near = (let h = so_far.near in omega (arith, g, small, near, h));
}

pub narrowed : (sum rest whole : ℤ) (weight : ℕ) → IsNarrowed sum rest whole weight → rest ≡ pos 0 → sum ≡ whole
narrowed sum rest whole weight so_far none = let e = so_far.is in omega (arith, ints, e, none)
