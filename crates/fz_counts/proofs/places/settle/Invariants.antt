use Rattle.fz_counts.proofs.Settling.{IsSettling}
use Rattle.fz_counts.proofs.places.settle.Given as goal

-- no assignment is lost that goes this way, and where nothing changed those so far are settled
abbrev pub invariant-loop-term : goal.invariant-loop-term
invariant-loop-term l = IsSettling l.choice l.value l.terms l.initial.store l.store l.has_changed l.term-index
