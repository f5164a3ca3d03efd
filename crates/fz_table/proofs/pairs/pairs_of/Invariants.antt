use Rattle.fz_table.proofs.PairWords.{ArePartnersBelow}
use Rattle.fz_table.proofs.pairs.pairs_of.Given as goal

-- the pairs of the rows so far
abbrev pub invariant-loop-row : goal.invariant-loop-row
invariant-loop-row l = ArePartnersBelow l.table l.pairs l.row
