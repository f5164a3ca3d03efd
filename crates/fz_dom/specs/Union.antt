-- The states of the union of a list of ranges.
use Rattle.std.specs.Prelude.{ℤ, ◌≤ℤ◌, List, [], ◌∷◌, ◌++◌, All}
use Rattle.fz_sets.specs.Sets.{AreRanges, AreWithinLimits, AreOneSet, IsWithinLimits}

-- a range that isn't empty, within the limits
abbrev pub IsProper : ℤ × ℤ → Type 0
IsProper r = (r.0 ≤ℤ r.1) × IsWithinLimits r.0 × IsWithinLimits r.1

-- the lows don't fall
abbrev pub AreInOrder : List (ℤ × ℤ) → Type 0
AreInOrder [] = Unit {0}
AreInOrder (r ∷ []) = Unit {0}
AreInOrder (r ∷ s ∷ rs) = (r.0 ≤ℤ s.0) × AreInOrder (s ∷ rs)

-- the ranges that are done, the last one so far, which may still grow, and those that are left are one set with the whole
pub record IsMerging (done : List (ℤ × ℤ)) (last : ℤ × ℤ) (left whole : List (ℤ × ℤ)) : Type 0 where
  pub ranges : AreRanges (done ++ last ∷ [])
  pub within : AreWithinLimits (done ++ last ∷ [])
  pub last_proper : IsProper last
  pub left_proper : All IsProper left
  pub order : AreInOrder (last ∷ left)
  pub one_set : AreOneSet (done ++ last ∷ left) whole
