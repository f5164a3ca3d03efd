use Rattle.fz_column.proofs.Finding.{AreSpansBelow}
use Rattle.fz_column.proofs.index.spans_of.Given as goal

-- the numbers of the supports so far
abbrev pub invariant-loop-support : goal.invariant-loop-support
invariant-loop-support l = AreSpansBelow l.supports l.spans l.support-index
