use Rattle.std.proofs.Common.{length, ◌-◌}
use Rattle.fz_column.proofs.Walking.{AreUpTo, AreAddedTo}
use Rattle.fz_column.proofs.walk.add_numbers.Given as goal

-- the numbers of the supports so far are added
abbrev pub invariant-loop-end : goal.invariant-loop-end
invariant-loop-end l = record {
  up_to : AreUpTo l.supports l.place l.high l.end;
  added : AreAddedTo l.supports l.rows l.place l.initial.numbers l.numbers l.end;
}

abbrev pub decreases-loop-end : goal.decreases-loop-end
decreases-loop-end l = length l.supports - l.end
