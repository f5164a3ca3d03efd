use Rattle.fz_column.proofs.Packing.{IsWidthBelow}
use Rattle.fz_column.proofs.packed.width_of.Given as goal

-- the width of the supports so far
abbrev pub invariant-loop-support : goal.invariant-loop-support
invariant-loop-support l = IsWidthBelow l.supports l.width l.support-index
