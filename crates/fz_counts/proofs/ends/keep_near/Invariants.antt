use Rattle.fz_prop.proofs.Keeping.{IsKept}
use Rattle.fz_counts.specs.Covers.{AllNear}
use Rattle.fz_counts.proofs.ends.keep_near.Given as goal

-- no assignment is lost that is near the ends
abbrev pub invariant-loop-term : goal.invariant-loop-term
invariant-loop-term l = IsKept (AllNear l.slack l.terms l.initial.store.doms) l.initial.store l.store l.has_changed
