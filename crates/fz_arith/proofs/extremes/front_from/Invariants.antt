use Rattle.fz_prop.specs.Told.{IsBeaten, AreDoneBelow}
use Rattle.fz_arith.proofs.extremes.front_from.Given as goal

-- none before this place is it
abbrev pub invariant-loop-place : goal.invariant-loop-place
invariant-loop-place l = AreDoneBelow (λ i t. IsBeaten l.operation l.store.doms l.value t) l.operands l.place
