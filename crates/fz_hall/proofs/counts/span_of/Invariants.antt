use Rattle.std.proofs.Common.{take}
use Rattle.std.specs.List.{AllByRecursion}
use Rattle.fz_hall.specs.Counts.{IsInSpan}
use Rattle.fz_hall.proofs.counts.span_of.Given as goal

-- those so far
abbrev pub invariant-loop-term : goal.invariant-loop-term
invariant-loop-term l = AllByRecursion (IsInSpan l.store.doms l.span.low l.span.high) (take l.term-index l.terms)
