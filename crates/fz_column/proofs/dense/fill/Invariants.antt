use Rattle.fz_column.proofs.ByPlaces.{IsFilledBelow}
use Rattle.fz_column.proofs.dense.fill.Given as goal

-- the rows of the supports so far are in
abbrev pub invariant-loop-support : goal.invariant-loop-support
invariant-loop-support l = IsFilledBelow l.base l.grid l.supports l.support-index
