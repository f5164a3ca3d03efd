-- Which tasks are jobs, no two of which can run at the same time, and what a direction makes of their times.
use Rattle.std.specs.Prelude.{◌≡◌, ◌≤◌, ℕ, ℤ, pos, ◌+ℤ◌, ◌-ℤ◌, ◌<ℤ◌, nat_eq, List, count_by, slice_get, slice_index_or, Some}
use Rattle.std.specs.List.{AllByRecursion}
use Rattle.fz_spec.specs.declared.term.Term.{Term}
use Rattle.fz_spec.specs.declared.term.Term.TheVariants.{Num}
use Rattle.fz_spec.specs.Constraints.{term_value}
use Rattle.fz_strength.specs.declared.open_task.OpenTask.{OpenTask}
use Rattle.fz_disjunctive.specs.declared.job.Job.{Job}
use Rattle.fz_disjunctive.specs.declared.job.Direction.{Direction}
use Rattle.fz_disjunctive.specs.declared.job.Direction.TheVariants.{Forward, Backward}

-- when a task begins; read backward it begins where it ends, before time 0
abbrev pub begins : Direction → ℤ → ℤ → ℤ
begins Forward start duration = start
begins Backward start duration = pos 0 -ℤ (start +ℤ duration)

-- the job that the task at a place is
abbrev pub job_of : Direction → ℕ → OpenTask → Job
job_of Forward place task = record { place = place; earliest = task.earliest; latest = task.latest; duration = task.duration }
job_of Backward place task = record {
  place = place;
  earliest = pos 0 -ℤ (task.latest +ℤ task.duration);
  latest = pos 0 -ℤ (task.earliest +ℤ task.duration);
  duration = task.duration;
}

-- A task that lasts and uses more than half of the bound; no two such tasks run at the same time.
pub record IsWide (task : OpenTask) (high : ℤ) : Type 0 where
  pub lasts : pos 0 <ℤ task.duration
  pub wide : high <ℤ (task.usage +ℤ task.usage)

-- the job of the task at its place
pub record IsJobOf (direction : Direction) (tasks : List OpenTask) (high : ℤ) (job : Job) : Type 0 where
  pub task : OpenTask
  pub at : slice_get tasks job.place ≡ Some task
  pub wide : IsWide task high
  pub is : job ≡ job_of direction job.place task

-- how many jobs are of the task at a place
abbrev pub jobs_at : ℕ → List Job → ℕ
jobs_at place jobs = count_by (λ (job : Job). nat_eq job.place place) jobs

-- jobs of tasks, at most one of each
pub record AreJobs (direction : Direction) (tasks : List OpenTask) (high : ℤ) (jobs : List Job) : Type 0 where
  pub each : AllByRecursion (IsJobOf direction tasks high) jobs
  pub once : (place : ℕ) → jobs_at place jobs ≤ 1

-- when the jobs begin by an assignment
abbrev pub starts_by : Direction → List Term → List ℤ → Job → ℤ
starts_by direction starts a job = begins direction (term_value a (slice_index_or starts job.place (Num (pos 0)))) job.duration
