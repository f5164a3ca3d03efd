use Rattle.fz_prop.proofs.Keeping.{IsKept}
use Rattle.fz_counts.specs.Covers.{AllSide}
use Rattle.fz_counts.proofs.mixed.settle_mixed.Given as goal

-- no assignment is lost that goes this way
abbrev pub invariant-loop-term : goal.invariant-loop-term
invariant-loop-term l = IsKept (AllSide l.choice l.cover l.terms l.initial.store.doms) l.initial.store l.store l.has_changed
