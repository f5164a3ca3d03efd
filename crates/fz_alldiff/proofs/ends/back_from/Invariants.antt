use Rattle.fz_alldiff.specs.Ends.{AreAloneBehind}
use Rattle.fz_alldiff.proofs.ends.back_from.Given as goal

-- none of that many at the back has a number in common with another
abbrev pub invariant-loop-passed : goal.invariant-loop-passed
invariant-loop-passed l = AreAloneBehind l.terms l.store.doms l.passed
