use Rattle.std.proofs.Common.{take}
use Rattle.fz_branch.specs.Plans.{AreRising}
use Rattle.fz_branch.proofs.rising.rises_of.Given as goal

-- of those so far it is said
abbrev pub invariant-loop-part : goal.invariant-loop-part
invariant-loop-part l = AreRising l.rises.items (take l.part-index l.parts)
