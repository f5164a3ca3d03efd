-- How long tasks run at least in a window of time, and how much they then use of a resource (Erschler, Lopez: "Energy-based
-- approach for task scheduling under time and resources constraints").
use Rattle.std.specs.Prelude.{ℤ, pos, ◌+ℤ◌, ◌-ℤ◌, ◌*ℤ◌, ◌≤ℤ◌, ◌<ℤ◌, List, [], ◌∷◌}
use Rattle.std.specs.Int.{int_min, int_max}
use Rattle.fz_strength.specs.declared.open_task.OpenTask.{OpenTask}

-- for how long what starts at a time and lasts so long runs in the window from a time up to, not with, another one
abbrev pub overlap : ℤ → ℤ → ℤ → ℤ → ℤ
overlap since until start duration = int_max (pos 0) (int_min until (start +ℤ duration) -ℤ int_max since start)

-- a task runs there at least so long, whenever it starts
abbrev pub least_overlap : ℤ → ℤ → OpenTask → ℤ
least_overlap since until task = int_min (overlap since until task.earliest task.duration) (overlap since until task.latest task.duration)

-- what all use there at least, in all
abbrev pub energy_in : ℤ → ℤ → List OpenTask → ℤ
energy_in since until [] = pos 0
energy_in since until (task ∷ tasks) = (task.usage *ℤ least_overlap since until task) +ℤ energy_in since until tasks

-- they use more in a window than the bound allows
pub record IsOverdrawnIn (tasks : List OpenTask) (high since until : ℤ) : Type 0 where
  pub window : since ≤ℤ until
  pub over : (high *ℤ (until -ℤ since)) <ℤ energy_in since until tasks

-- so it is in some window
abbrev pub IsOverdrawn : List OpenTask → ℤ → Type 0
IsOverdrawn tasks high = (since : ℤ) × (until : ℤ) × IsOverdrawnIn tasks high since until
