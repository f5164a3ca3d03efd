-- Where a box is split.
use Rattle.std.proofs.Common.{◌≡◌, ℕ, ◌+◌, ◌/◌, ◌<◌, Bool, true, false, cond, List, refl, arith, length}
use Rattle.std.specs.Prelude.{ℤ, pos, negsuc, ◌+ℤ◌}
use Rattle.std.specs.Int.{int_div_euclid}
use Rattle.std.proofs.lemmas.Int.{ints}
use Rattle.fz_refutes.specs.Trees.{IsOpen, IsFirstOpen}
use Rattle.fz_refutes.proofs.Opening.{open_within}

-- half way from the lesser of two numbers to the other
by_sign : (low high sum : ℤ) (k : ℕ) → sum ≡ low +ℤ high → low +ℤ pos k ≡ high → low +ℤ pos (k / 2) ≡ int_div_euclid sum (pos 2)
by_sign low high (pos n) k is apart = omega (arith, ints, is, apart)
by_sign low high (negsuc n) k is apart = omega (arith, ints, is, apart)

pub half_way : (low high : ℤ) (k : ℕ) → low +ℤ pos k ≡ high → low +ℤ pos (k / 2) ≡ int_div_euclid (low +ℤ high) (pos 2)
half_way low high k apart = by_sign low high (low +ℤ high) k refl apart

-- ---- which variable

pub within : (box : List (List (ℤ × ℤ))) (v : ℕ) → IsOpen box v → v < length box
within box v several = open_within box v (omega (arith, several))

by_test : (test : Bool) (box : List (List (ℤ × ℤ))) (goal : ℕ) → test ≡ true → cond test (goal ≡ goal) (IsFirstOpen box goal)
by_test true box goal is = refl
by_test false box goal is = absurd (cc is)
