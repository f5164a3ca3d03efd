use Rattle.std.proofs.Common.{◌≡◌, take}
use Rattle.fz_strength.specs.Cumulatives.{open_tasks}
use Rattle.fz_cumulative.proofs.tasks.open_tasks.Given as goal

-- the tasks so far
abbrev pub invariant-loop-i : goal.invariant-loop-i
invariant-loop-i l = l.tasks.items ≡ take l.i (open_tasks l.store.doms l.starts l.durations l.usages)
