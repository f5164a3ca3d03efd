use Rattle.std.proofs.Common.{◌≡◌, length}
use Rattle.fz_column.proofs.Walking.{AreUpTo, AreJoinedTo}
use Rattle.fz_column.proofs.walk.join_to.Given as goal

-- the rows of the supports so far are put in
abbrev pub invariant-loop-end : goal.invariant-loop-end
invariant-loop-end l = record {
  up_to : AreUpTo l.supports l.place l.high l.end;
  joined : AreJoinedTo l.supports l.place l.initial.rows l.rows l.end;
  size : length l.rows ≡ length l.initial.rows;
}
