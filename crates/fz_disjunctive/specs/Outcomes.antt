-- When an assignment is a schedule.
use Rattle.std.specs.Prelude.{ℤ, List}
use Rattle.fz_spec.specs.declared.term.Term.{Term}
use Rattle.fz_disjunctive.specs.declared.job.Job.{Job}
use Rattle.fz_disjunctive.specs.declared.job.Direction.{Direction}
use Rattle.fz_disjunctive.specs.Jobs.{starts_by}
use Rattle.fz_disjunctive.specs.Schedules.{IsSchedule}

-- an assignment starts the jobs so that no two run at the same time
abbrev pub IsScheduling : Direction → List Job → List Term → List ℤ → Type 0
IsScheduling direction jobs starts a = IsSchedule (starts_by direction starts a) jobs
