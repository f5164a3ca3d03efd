-- The numbers of a text.
use Rattle.std.specs.Prelude.{ℕ, ℤ, pos, negsuc, ◌<◌, ◌≤ℤ◌, List, [], ◌∷◌}

-- a number of 32 bits
abbrev pub IsWord : ℤ → Type 0
IsWord n = (negsuc 2147483647 ≤ℤ n) × (n ≤ℤ pos 2147483647)

-- a digit or a minus, or a byte between these
abbrev pub IsOfNumber : ℕ → Type 0
IsOfNumber byte = (44 < byte) × (byte < 58)

-- here a number that stands before has its end
abbrev pub EndsNumber : List ℕ → Type 0
EndsNumber [] = Unit {0}
EndsNumber (byte ∷ bytes) = IsOfNumber byte → ⊥
