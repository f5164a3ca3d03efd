-- What the readers of a domain answer.
use Rattle.std.specs.Prelude.{ℤ, pos, ◌≤ℤ◌, ◌<ℤ◌, List, [], ◌∷◌}
use Rattle.fz_sets.specs.Sets.{AreRanges, AreWithinLimits, IsInSet}

-- what holds of the ranges of every domain
abbrev pub IsDomain : List (ℤ × ℤ) → Type 0
IsDomain rs = AreRanges rs × AreWithinLimits rs

-- the first low and the last high, 0 where there is no range
abbrev pub least : List (ℤ × ℤ) → ℤ
least [] = pos 0
least (r ∷ rs) = r.0

abbrev pub greatest : List (ℤ × ℤ) → ℤ
greatest [] = pos 0
greatest (r ∷ []) = r.1
greatest (r ∷ s ∷ rs) = greatest (s ∷ rs)

-- y is the least member at or above v
abbrev pub IsNextFrom : List (ℤ × ℤ) → ℤ → ℤ → Type 0
IsNextFrom rs v y = IsInSet rs y × (v ≤ℤ y) × ((z : ℤ) → IsInSet rs z → v ≤ℤ z → y ≤ℤ z)

-- y is the least member above v
abbrev pub IsNextAbove : List (ℤ × ℤ) → ℤ → ℤ → Type 0
IsNextAbove rs v y = IsInSet rs y × (v <ℤ y) × ((z : ℤ) → IsInSet rs z → v <ℤ z → y ≤ℤ z)

-- no member is at or above v, or above v
abbrev pub IsNoneFrom : List (ℤ × ℤ) → ℤ → Type 0
IsNoneFrom rs v = (z : ℤ) → IsInSet rs z → z <ℤ v

abbrev pub IsNoneAbove : List (ℤ × ℤ) → ℤ → Type 0
IsNoneAbove rs v = (z : ℤ) → IsInSet rs z → z ≤ℤ v
