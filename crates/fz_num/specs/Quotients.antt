-- Rounded quotients, by what they leave.
use Rattle.std.specs.Prelude.{ℤ, pos, ◌≤ℤ◌, ◌<ℤ◌, ◌-ℤ◌, ◌*ℤ◌, ◌⊎◌}

-- r has the sign of b, or is zero, and is smaller than b in size
abbrev pub IsRest : ℤ → ℤ → Type 0
IsRest b r = ((pos 0 ≤ℤ r) × (r <ℤ b)) ⊎ ((b <ℤ r) × (r ≤ℤ pos 0))

-- q is a / b rounded down: what is left has the sign of b
abbrev pub IsFloor : ℤ → ℤ → ℤ → Type 0
IsFloor a b q = IsRest b (a -ℤ q *ℤ b)

-- q is a / b rounded up: what is too much has the sign of b
abbrev pub IsCeiling : ℤ → ℤ → ℤ → Type 0
IsCeiling a b q = IsRest b (q *ℤ b -ℤ a)
