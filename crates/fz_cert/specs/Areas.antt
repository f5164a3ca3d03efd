-- What a box keeps beside its sets: how many of them are empty.
use Rattle.std.specs.Prelude.{◌≡◌, ℕ, ℤ, Bool, true, false, List, [], ◌∷◌, count_by}
use Rattle.fz_refutes.specs.Boxes.{AreSets}

abbrev pub has_no_number : List (ℤ × ℤ) → Bool
has_no_number [] = true
has_no_number (r ∷ rs) = false

pub record IsArea (sets : List (List (ℤ × ℤ))) (empty : ℕ) : Type 0 where
  pub ranges : AreSets sets
  pub count : empty ≡ count_by has_no_number sets
