use Rattle.fz_disjunctive.specs.Outcomes.{IsScheduling}
use Rattle.fz_prop.proofs.Keeping.{IsKept}
use Rattle.fz_disjunctive.proofs.narrow.keep_starts.Given as goal

-- no schedule is lost, and whether the store changed
abbrev pub invariant-loop-index : goal.invariant-loop-index
invariant-loop-index l = IsKept (IsScheduling l.direction l.jobs l.starts) l.initial.store l.store l.has_changed
