use Rattle.fz_prop.specs.Told.{AreUntrueBelow}
use Rattle.fz_bool.proofs.literals.front_from.Given as goal

-- none before this place may get true
abbrev pub invariant-loop-place : goal.invariant-loop-place
invariant-loop-place l = AreUntrueBelow l.store.doms l.literals l.place
