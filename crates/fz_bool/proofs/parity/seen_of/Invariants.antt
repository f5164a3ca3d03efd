use Rattle.fz_bool.proofs.Odd.{SeenSoFar}
use Rattle.fz_bool.proofs.parity.seen_of.Given as goal

-- what was seen of the terms so far
abbrev pub invariant-loop-term : goal.invariant-loop-term
invariant-loop-term l = SeenSoFar l.last l.odd l.store.doms l.terms l.term-index
