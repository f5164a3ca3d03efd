use Rattle.fz_spec.specs.Constraints.{IsTrueOf}
use Rattle.fz_truth.proofs.Declared.{AllBefore}
use Rattle.fz_truth.proofs.model.are_true.Given as goal

-- those so far are true
abbrev pub invariant-loop-number : goal.invariant-loop-number
invariant-loop-number l = AllBefore (IsTrueOf l.values) l.constraints l.number
