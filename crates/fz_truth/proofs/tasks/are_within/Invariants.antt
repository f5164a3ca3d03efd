use Rattle.std.proofs.Common.{take}
use Rattle.std.specs.List.{AllByRecursion}
use Rattle.fz_truth.specs.Listed.{listed}
use Rattle.fz_truth.proofs.TaskLaws.{IsWithin}
use Rattle.fz_truth.proofs.tasks.are_within.Given as goal

-- the load is within the bound where those so far start
abbrev pub invariant-loop-i : goal.invariant-loop-i
invariant-loop-i l = AllByRecursion (IsWithin (listed l.tasks) l.bound) (take l.i (listed l.tasks))
