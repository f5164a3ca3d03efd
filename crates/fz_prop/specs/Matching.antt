-- The numbers of two sets that have a partner in the other.
use Rattle.std.specs.Prelude.{◌↔◌, ◌≤ℤ◌, ◌+ℤ◌, ℤ, pos}
use Rattle.fz_sets.specs.Sets.{LEAST, GREATEST}

-- the 64 numbers from a base on lie within the limits
abbrev pub HasRoom : ℤ → Type 0
HasRoom base = (LEAST ≤ℤ base) × ((base +ℤ pos 63) ≤ℤ GREATEST)

-- a number with one property and its partner with another
pub record IsPairOf (R : ℤ → ℤ → Type 0) (D E : ℤ → Type 0) (n m : ℤ) : Type 0 where
  pub partners : R n m
  pub first : D n
  pub second : E m

-- the first numbers of all such pairs, and the second ones
pub record AreMatching (R : ℤ → ℤ → Type 0) (D E P Q : ℤ → Type 0) : Type 0 where
  pub firsts : (n : ℤ) → P n ↔ ((m : ℤ) × IsPairOf R D E n m)
  pub seconds : (m : ℤ) → Q m ↔ ((n : ℤ) × IsPairOf R D E n m)
