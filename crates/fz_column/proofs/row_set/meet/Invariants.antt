use Rattle.fz_bits.proofs.Members.{AreMet}
use Rattle.fz_column.proofs.row_set.meet.Given as goal

-- the words so far are met
abbrev pub invariant-loop-place : goal.invariant-loop-place
invariant-loop-place l = AreMet l.initial.rows l.others l.rows l.place
