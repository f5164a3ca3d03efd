use Rattle.fz_rel.proofs.Outside.{AreGaps}
use Rattle.fz_rel.proofs.others.others_of.Given as goal

abbrev pub invariant-loop-i : goal.invariant-loop-i
invariant-loop-i l = AreGaps l.set l.gaps.items l.i l.from
