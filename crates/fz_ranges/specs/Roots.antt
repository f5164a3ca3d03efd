-- Roots.
use Rattle.std.specs.Prelude.{ℕ, ◌+◌, ◌*◌, ◌<◌, ℤ, pos, ◌≤ℤ◌, ◌<ℤ◌}
use Rattle.std.specs.Int.{int_max}

-- the greatest number whose square is at most n, 0 where n is negative
abbrev pub IsRoot : ℤ → ℕ → Type 0
IsRoot n root = (pos (root * root) ≤ℤ int_max n (pos 0)) × (n <ℤ pos ((root + 1) * (root + 1))) × (root < 65536)
