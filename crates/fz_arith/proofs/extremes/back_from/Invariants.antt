use Rattle.fz_prop.specs.Told.{IsBeaten, AreDoneBehind}
use Rattle.fz_arith.proofs.extremes.back_from.Given as goal

-- none of that many at the back is it
abbrev pub invariant-loop-passed : goal.invariant-loop-passed
invariant-loop-passed l = AreDoneBehind (λ i t. IsBeaten l.operation l.store.doms l.value t) l.operands l.passed
