use Rattle.std.proofs.Common.{take}
use Rattle.fz_spec.specs.Instance.{AreDeclared}
use Rattle.fz_truth.proofs.model.are_declared.Given as goal

-- those so far are declared
abbrev pub invariant-loop-i : goal.invariant-loop-i
invariant-loop-i l = AreDeclared (take l.i l.variables) (take l.i l.values)
