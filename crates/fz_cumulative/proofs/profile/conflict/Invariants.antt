use Rattle.std.proofs.Common.{◌≡◌, take}
use Rattle.std.specs.Prelude.{slice_get, Some}
use Rattle.std.specs.List.{AllByRecursion}
use Rattle.fz_strength.specs.declared.open_task.OpenTask.{OpenTask}
use Rattle.fz_cumulative.proofs.Peaks.{FitsAtStart}
use Rattle.fz_cumulative.proofs.profile.conflict.Given as goal

-- the task fits at the latest starts so far
abbrev pub invariant-loop-i : goal.invariant-loop-i
invariant-loop-i l = (task : OpenTask) → slice_get l.tasks l.place ≡ Some task → AllByRecursion (FitsAtStart l.tasks l.bound l.place task l.start) (take l.i l.tasks)
