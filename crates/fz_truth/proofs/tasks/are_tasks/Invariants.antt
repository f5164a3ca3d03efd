use Rattle.std.proofs.Common.{take}
use Rattle.std.specs.List.{AllByRecursion}
use Rattle.fz_spec.specs.Truth.{IsTask}
use Rattle.fz_truth.specs.Listed.{listed}
use Rattle.fz_truth.proofs.tasks.are_tasks.Given as goal

-- nothing so far is negative
abbrev pub invariant-loop-i : goal.invariant-loop-i
invariant-loop-i l = AllByRecursion IsTask (take l.i (listed l.tasks))
