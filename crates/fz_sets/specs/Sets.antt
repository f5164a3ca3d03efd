-- The limits of the language, and sets of whole numbers as lists of ranges.
-- The limits are Gecode's (Int::Limits); a set literal and a domain are ranges as in the MiniZinc Handbook, "FlatZinc".
use Rattle.std.specs.Prelude.{ℤ, pos, negsuc, ◌≤ℤ◌, ◌<ℤ◌, ◌+ℤ◌, ◌-ℤ◌, ◌↔◌, List, [], ◌∷◌, ◌⊎◌, ℕ, ◌+◌, nat_abs, if◌then◌else◌, int_le}

-- the greatest number, and the least, which is its negative
abbrev pub GREATEST : ℤ
GREATEST = pos 2147483646

abbrev pub LEAST : ℤ
LEAST = negsuc 2147483645

abbrev pub IsWithinLimits : ℤ → Type 0
IsWithinLimits x = (LEAST ≤ℤ x) × (x ≤ℤ GREATEST)

-- a range by its two ends, both in it; it is empty where the first is above the second
abbrev pub IsInRange : ℤ × ℤ → ℤ → Type 0
IsInRange r x = (r.0 ≤ℤ x) × (x ≤ℤ r.1)

-- in one of the ranges
abbrev pub IsInSet : List (ℤ × ℤ) → ℤ → Type 0
IsInSet [] x = ⊥
IsInSet (r ∷ rs) x = IsInRange r x ⊎ IsInSet rs x

-- two lists of ranges are one set
abbrev pub AreOneSet : List (ℤ × ℤ) → List (ℤ × ℤ) → Type 0
AreOneSet rs ss = (x : ℤ) → IsInSet rs x ↔ IsInSet ss x

-- rising ranges, none empty, and between one and the next at least one number: the one such list of its set
abbrev pub AreRanges : List (ℤ × ℤ) → Type 0
AreRanges [] = Unit {0}
AreRanges (r ∷ []) = r.0 ≤ℤ r.1
AreRanges (r ∷ s ∷ rs) = (r.0 ≤ℤ r.1) × ((r.1 +ℤ pos 1) <ℤ s.0) × AreRanges (s ∷ rs)

-- both ends of each range are within the limits
abbrev pub AreWithinLimits : List (ℤ × ℤ) → Type 0
AreWithinLimits [] = Unit {0}
AreWithinLimits (r ∷ rs) = IsWithinLimits r.0 × IsWithinLimits r.1 × AreWithinLimits rs

-- how many numbers lie in a range that isn't empty, and in rising ranges
abbrev pub range_size : ℤ × ℤ → ℕ
range_size r = nat_abs (r.1 -ℤ r.0) + 1

abbrev pub set_size : List (ℤ × ℤ) → ℕ
set_size [] = 0
set_size (r ∷ rs) = range_size r + set_size rs

-- the rising ranges of the set l..u
abbrev pub interval : ℤ → ℤ → List (ℤ × ℤ)
interval l u = if int_le l u then (l, u) ∷ [] else []

-- the set of one number
abbrev pub single : ℤ → List (ℤ × ℤ)
single x = (x, x) ∷ []
