use Rattle.std.proofs.Common.{length, ◌-◌}
use Rattle.fz_bits.specs.Windows.{IsBit}
use Rattle.fz_column.proofs.Windowed.{AreRowsBelow}
use Rattle.fz_column.proofs.near.join_near.Given as goal

-- the rows of the supports so far are put in
abbrev pub invariant-loop-place : goal.invariant-loop-place
invariant-loop-place l = AreRowsBelow l.supports (λ n. IsBit l.fn.window.base l.fn.window.bits n) l.initial.rows l.rows l.place

abbrev pub decreases-loop-place : goal.decreases-loop-place
decreases-loop-place l = length l.supports - l.place
