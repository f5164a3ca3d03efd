use Rattle.fz_region.specs.Pieces.{AreSettledTo}
use Rattle.fz_region.proofs.tail.settled_from.Given as goal

-- those so far are settled
abbrev pub invariant-loop-i : goal.invariant-loop-i
invariant-loop-i l = AreSettledTo l.i l.tail
