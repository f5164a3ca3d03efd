use Rattle.std.proofs.Common.{drop}
use Rattle.fz_trail.specs.Places.{AreBelow}
use Rattle.fz_trail.proofs.trail.Trail.place_above.Given as goal

-- those from here on stand below the node
abbrev pub invariant-loop-i : goal.invariant-loop-i
invariant-loop-i g l = AreBelow (drop l.i l.self.copies.items) l.node
