use Rattle.fz_alldiff.proofs.Spanning.{AreBetweenBelow}
use Rattle.fz_alldiff.proofs.span.close_span.Given as goal

-- the ends of the terms so far
abbrev pub invariant-loop-term : goal.invariant-loop-term
invariant-loop-term l = AreBetweenBelow l.terms l.store.doms l.low l.high l.term-index
