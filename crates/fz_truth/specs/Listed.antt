-- Tasks as the code reads them.
use Rattle.std.specs.Prelude.{List}
use Rattle.fz_spec.specs.Constraints.{term_values}
use Rattle.fz_spec.specs.Truth as truth
use Rattle.fz_truth.specs.declared.tasks.Task.{Task}
use Rattle.fz_truth.specs.declared.tasks.Tasks.{Tasks}

abbrev pub task_of : Task → truth.Task
task_of task = record { start = task.start; duration = task.duration; usage = task.usage }

-- the tasks of three lists of terms, by the values of variables
abbrev pub listed : Tasks → List truth.Task
listed tasks = truth.tasks_of (term_values tasks.values.now tasks.starts.now) (term_values tasks.values.now tasks.durations.now) (term_values tasks.values.now tasks.usages.now)
