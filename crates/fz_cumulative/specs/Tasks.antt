-- Tasks by their places, the profile of what they are sure to use, and the starts at which it leaves a task too little.
use Rattle.std.specs.Prelude.{◌≡◌, ◌≢◌, ℕ, ℤ, ◌+ℤ◌, ◌-ℤ◌, ◌≤ℤ◌, ◌<ℤ◌, List, map, slice_get, Some}
use Rattle.fz_strength.specs.declared.open_task.OpenTask.{OpenTask}
use Rattle.fz_strength.specs.Cumulatives.{part_at, parts_at, others_at}

-- the task at a place has a property
pub record IsAt (tasks : List OpenTask) (place : ℕ) (P : OpenTask → Type 0) : Type 0 where
  pub task : OpenTask
  pub at : slice_get tasks place ≡ Some task
  pub holds : P task

-- a time in the compulsory part of a task
pub record IsInPart (task : OpenTask) (time : ℤ) : Type 0 where
  pub begun : task.latest ≤ℤ time
  pub lasting : time <ℤ (task.earliest +ℤ task.duration)

-- what all tasks are sure to use at the latest start of each
abbrev pub profile_of : List OpenTask → List ℤ
profile_of tasks = map (λ (task : OpenTask). parts_at task.latest tasks) tasks

-- a task that begins at a start lasts to a time
pub record IsRunning (task : OpenTask) (start time : ℤ) : Type 0 where
  pub begun : start ≤ℤ time
  pub lasting : time <ℤ (start +ℤ task.duration)

-- a task passes the bound with the parts of the others, where all parts are a load
pub record IsPassed (task : OpenTask) (load time bound : ℤ) : Type 0 where
  pub passed : bound <ℤ ((load -ℤ part_at time task) +ℤ task.usage)

pub record IsMet (task : OpenTask) (load start time bound : ℤ) : Type 0 where
  pub running : IsRunning task start time
  pub over : IsPassed task load time bound

-- A time, as long as the task at a place lasts that begins at a start, at which it and the parts of the others pass the bound.
pub record IsConflict (tasks : List OpenTask) (bound : ℤ) (place : ℕ) (task : OpenTask) (start time : ℤ) : Type 0 where
  pub begun : start ≤ℤ time
  pub lasting : time <ℤ (start +ℤ task.duration)
  pub passed : bound <ℤ (others_at time place tasks +ℤ task.usage)

-- a start of the task at a place at which there is such a time
abbrev pub IsBlocked : List OpenTask → ℤ → ℕ → OpenTask → ℤ → Type 0
IsBlocked tasks bound place task start = (time : ℤ) × IsConflict tasks bound place task start time

-- All other tasks whose compulsory parts have a time are in them from a time up to, not with, another one.
pub record IsStretch (tasks : List OpenTask) (place : ℕ) (time since until : ℤ) : Type 0 where
  pub begun : since ≤ℤ time
  pub lasting : time <ℤ until
  pub parts : (other : ℕ) (task : OpenTask) → other ≢ place → slice_get tasks other ≡ Some task → IsInPart task time
      → (task.latest ≤ℤ since) × (until ≤ℤ (task.earliest +ℤ task.duration))
