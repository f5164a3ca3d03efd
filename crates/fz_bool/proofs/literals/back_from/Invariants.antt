use Rattle.fz_prop.specs.Told.{AreUntrueBehind}
use Rattle.fz_bool.proofs.literals.back_from.Given as goal

-- none of that many at the back may get true
abbrev pub invariant-loop-passed : goal.invariant-loop-passed
invariant-loop-passed l = AreUntrueBehind l.store.doms l.literals l.passed
