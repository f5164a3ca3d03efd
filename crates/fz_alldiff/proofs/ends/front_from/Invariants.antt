use Rattle.fz_alldiff.specs.Ends.{AreAloneBelow}
use Rattle.fz_alldiff.proofs.ends.front_from.Given as goal

-- none before this place has a number in common with another
abbrev pub invariant-loop-place : goal.invariant-loop-place
invariant-loop-place l = AreAloneBelow l.terms l.store.doms l.place
