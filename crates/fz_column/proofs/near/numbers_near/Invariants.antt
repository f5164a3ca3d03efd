use Rattle.std.proofs.Common.{◌≡◌, length, ◌-◌}
use Rattle.fz_bits.specs.Windows.{IsBit}
use Rattle.fz_column.proofs.Windowed.{AreNumbersBelow}
use Rattle.fz_column.proofs.near.numbers_near.Given as goal

-- the numbers of the supports so far
abbrev pub invariant-loop-place : goal.invariant-loop-place
invariant-loop-place l = record {
  base : l.numbers.base ≡ l.fn.window.base;
  numbers : AreNumbersBelow l.supports l.rows (λ n. IsBit l.fn.window.base l.fn.window.bits n) (λ n. IsBit l.fn.window.base l.numbers.bits n) l.place;
}

abbrev pub decreases-loop-place : goal.decreases-loop-place
decreases-loop-place l = length l.supports - l.place
