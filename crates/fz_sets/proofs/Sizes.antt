-- How many numbers a set has.
use Rattle.std.proofs.Common.{◌≡◌, ℕ, ◌<◌, ℤ, List, [], ◌∷◌, length, arith}
use Rattle.std.proofs.lemmas.Int.{ints}
use Rattle.fz_sets.specs.Sets.{set_size}

pub size_of_one : (x : ℤ) → set_size ((x, x) ∷ []) ≡ 1
size_of_one x = omega (arith, ints)

pub some_size : (d : List (ℤ × ℤ)) → 0 < length d → 0 < set_size d
some_size [] some = absurd (omega (arith, some))
some_size (r ∷ rs) some = omega arith
