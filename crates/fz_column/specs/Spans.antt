-- Ranges of numbers that grow by their end.
use Rattle.std.specs.Prelude.{◌≡◌, ℤ, ◌≤ℤ◌, ◌-◌, List, length, slice_get, Some}

-- a range has a number
abbrev pub IsFilled : ℤ × ℤ → Type 0
IsFilled r = r.0 ≤ℤ r.1

-- a number is the end of the last range
abbrev pub EndsAt : List (ℤ × ℤ) → ℤ → Type 0
EndsAt rs n = (r : ℤ × ℤ) × (slice_get rs (length rs - 1) ≡ Some r) × (r.1 ≡ n)
