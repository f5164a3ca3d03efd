use Rattle.fz_region.proofs.Values.{IsLeft}
use Rattle.fz_region.proofs.value.value_at.Given as goal

abbrev pub invariant-loop-i : goal.invariant-loop-i
invariant-loop-i l = IsLeft l.values l.i l.left l.place
