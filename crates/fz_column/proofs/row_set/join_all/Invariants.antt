use Rattle.fz_column.proofs.Packing.{AreJoinedBelow}
use Rattle.fz_column.proofs.row_set.join_all.Given as goal

-- the words so far are put in
abbrev pub invariant-loop-word : goal.invariant-loop-word
invariant-loop-word l = AreJoinedBelow l.initial.rows l.words l.rows l.word
