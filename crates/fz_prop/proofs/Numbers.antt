-- Two numbers that are not apart.
use Rattle.std.proofs.Common.{◌≡◌, arith}
use Rattle.std.specs.Prelude.{ℤ}
use Rattle.std.proofs.lemmas.Int.{ints, by_lt_z}

pub same_of_not : (x y : ℤ) → ((x ≡ y → ⊥) → ⊥) → x ≡ y
same_of_not x y not =
    by_lt_z x y (λ below. absurd (not (λ same. omega (arith, ints, below, same)))) (λ least_x. by_lt_z y x (λ above. absurd (not (λ same. omega (arith, ints, above, same)))) (λ least_y. omega (arith, ints, least_x, least_y)))
