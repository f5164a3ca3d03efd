use Rattle.fz_truth.specs.Listed.{listed}
use Rattle.fz_truth.proofs.TaskLaws.{IsLoaded}
use Rattle.fz_truth.proofs.tasks.load.Given as goal

-- what those so far use
abbrev pub invariant-loop-i : goal.invariant-loop-i
invariant-loop-i l = IsLoaded l.time (listed l.tasks) l.i l.load
