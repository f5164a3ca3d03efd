-- The ranges that an iterator has left: one that comes first, those of a word, and then a list.
use Rattle.std.specs.Prelude.{ℕ, pos, ℤ, ◌+ℤ◌, ◌≤ℤ◌, ◌<◌, ◌^◌, List, ◌∷◌, ◌++◌, Option, Some, None}
use Rattle.fz_sets.specs.Sets.{LEAST, GREATEST}
use Rattle.fz_dom.specs.Places.{bit_ranges}

abbrev pub left_of : Option (ℤ × ℤ) → ℤ → ℕ → List (ℤ × ℤ) → List (ℤ × ℤ)
left_of None base word rest = bit_ranges base word ++ rest
left_of (Some r) base word rest = r ∷ bit_ranges base word ++ rest

-- all places of the word lie within the limits
pub record IsBase (base : ℤ) (word : ℕ) : Type 0 where
  pub floor : LEAST ≤ℤ base
  pub ceiling : (base +ℤ pos 63) ≤ℤ GREATEST
  pub fits : word < 2 ^ 64
