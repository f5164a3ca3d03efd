-- What a truncated quotient and its rest are, signs aside.
use Rattle.std.proofs.Common.{◌≡◌, ◌≢◌, ℕ, zero, suc, ◌+◌, ◌*◌, ◌/◌, ◌%◌, ◌<◌, refl, sym, arith}
use Rattle.std.specs.Prelude.{ℤ, pos, negsuc, neg_ℤ, ◌≤ℤ◌, int_div, int_rem, unsigned_abs}
use Rattle.std.proofs.lemmas.Int.{ints, quot-rem, rem_below}
use Rattle.std.proofs.Math.Nat.{div-add-mod', zero-mod}
use Rattle.fz_spec.specs.Truth.{remainder}
use Rattle.fz_num.proofs.Products.{neg_size}
use Rattle.fz_ranges.specs.Sizes.{IsParted}

size_some : (w : ℤ) → w ≢ pos 0 → 0 < unsigned_abs w
size_some (pos zero) not = absurd (not refl)
size_some (pos (suc n)) not = omega arith
size_some (negsuc n) not = omega arith

sum_of : (u w : ℤ) → w ≢ pos 0 → unsigned_abs u ≡ unsigned_abs (int_div u w) * unsigned_abs w + unsigned_abs (int_rem u w)
sum_of u (pos zero) not = absurd (not refl)
sum_of (pos a) (pos (suc n)) not = sym (div-add-mod' a (suc n))
sum_of (pos a) (negsuc n) not = rw (neg_size (a / suc n)) (sym (div-add-mod' a (suc n)))
sum_of (negsuc a) (pos (suc n)) not = rw (neg_size (suc a / suc n), neg_size (suc a % suc n)) (sym (div-add-mod' (suc a) (suc n)))
sum_of (negsuc a) (negsuc n) not = rw (neg_size (suc a % suc n)) (sym (div-add-mod' (suc a) (suc n)))

pub parted : (u w : ℤ) → w ≢ pos 0 → IsParted (unsigned_abs u) (unsigned_abs w) (unsigned_abs (int_div u w)) (unsigned_abs (int_rem u w))
parted u w not = record { sum = sum_of u w not; below = rem_below u w (size_some w not) }

pub remainder_is : (x y : ℤ) → int_rem x y ≡ remainder x y
remainder_is x y = let e = quot-rem x y in omega (arith, ints, e)

neg_down : (n : ℕ) → neg_ℤ (pos n) ≤ℤ pos 0
neg_down n = omega (arith, ints)

pub rest_up : (u w : ℤ) → pos 0 ≤ℤ u → pos 0 ≤ℤ int_rem u w
rest_up (pos a) (pos n) from = omega (arith, ints)
rest_up (pos a) (negsuc n) from = omega (arith, ints)
rest_up (negsuc a) w from = absurd (omega (arith, ints, from))

pub rest_down : (u w : ℤ) → u ≤ℤ pos 0 → int_rem u w ≤ℤ pos 0
rest_down (pos zero) (pos n) to = let e = zero-mod n in omega (arith, ints, e)
rest_down (pos zero) (negsuc n) to = let e = zero-mod (suc n) in omega (arith, ints, e)
rest_down (pos (suc a)) w to = absurd (omega (arith, ints, to))
rest_down (negsuc a) (pos n) to = neg_down (suc a % n)
rest_down (negsuc a) (negsuc n) to = neg_down (suc a % suc n)
