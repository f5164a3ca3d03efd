use Rattle.fz_alldiff.proofs.Settling.{AreFlags}
use Rattle.fz_alldiff.proofs.settled.fixed_places.Given as goal

-- those so far
abbrev pub invariant-loop-term : goal.invariant-loop-term
invariant-loop-term l = AreFlags l.terms l.store.doms l.done.items l.term-index
