use Rattle.fz_alldiff.specs.Differing.{IsDifferent}
use Rattle.fz_prop.proofs.Keeping.{IsKept}
use Rattle.fz_hall.proofs.narrow.keep_each.Given as goal

-- nothing that is different is lost, and whether the store changed
abbrev pub invariant-loop-left : goal.invariant-loop-left
invariant-loop-left l = IsKept (IsDifferent l.terms) l.initial.store l.store l.has_changed
