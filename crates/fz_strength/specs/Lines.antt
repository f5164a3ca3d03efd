-- The line of what a Boolean says.
use Rattle.std.specs.Prelude.{ℤ, pos, List}
use Rattle.fz_strength.specs.Events.{IsOnly}

-- Where what is left decides, r is fixed; where r is fixed, the line of that side holds.
pub record IsReifiedLine (shown refuted line against : Type 0) (r : List (ℤ × ℤ)) : Type 0 where
  pub one_if_shown : shown → IsOnly r (pos 1)
  pub zero_if_refuted : refuted → IsOnly r (pos 0)
  pub line_if_one : IsOnly r (pos 1) → line
  pub against_if_zero : IsOnly r (pos 0) → against
