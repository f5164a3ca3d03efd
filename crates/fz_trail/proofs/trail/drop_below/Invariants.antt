use Rattle.std.proofs.Common.{length}
use Rattle.fz_trail.specs.Places.{AreLeftDownTo}
use Rattle.fz_trail.proofs.trail.drop_below.Given as goal

abbrev pub invariant-copies : goal.invariant-copies
invariant-copies g l = AreLeftDownTo l.depth l.initial.copies.items l.copies.items

abbrev pub decreases-copies : goal.decreases-copies
decreases-copies g l = length l.copies.items
