use Rattle.std.proofs.Common.{◌≡◌, take}
use Rattle.fz_region.proofs.tail.same_edges.Given as goal

-- those so far are the same
abbrev pub invariant-loop-i : goal.invariant-loop-i
invariant-loop-i l = take l.i l.these ≡ take l.i l.those
