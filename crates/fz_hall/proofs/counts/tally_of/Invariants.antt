use Rattle.std.proofs.Common.{take}
use Rattle.fz_hall.specs.Counts.{AreCounts, AreOpens, begins_at, ends_at}
use Rattle.fz_hall.proofs.counts.tally_of.Given as goal

-- those so far
abbrev pub invariant-loop-term : goal.invariant-loop-term
invariant-loop-term l = record {
  begins : AreCounts (begins_at l.store.doms) (take l.term-index l.terms) l.fn.span.low l.begins;
  ends : AreCounts (ends_at l.store.doms) (take l.term-index l.terms) l.fn.span.low l.ends;
  opens : AreOpens l.store.doms (take l.term-index l.terms) l.fn.span.low l.opens;
}
