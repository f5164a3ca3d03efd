use Rattle.fz_column.proofs.Packing.{AreMissed}
use Rattle.fz_column.proofs.row_set.meeting.Given as goal

-- the words so far have none
abbrev pub invariant-loop-word : goal.invariant-loop-word
invariant-loop-word l = AreMissed l.rows l.words l.word
