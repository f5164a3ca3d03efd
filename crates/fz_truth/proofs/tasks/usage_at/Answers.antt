use Rattle.std.proofs.Common.{rules, ◌+ℤ◌, ◌≤ℤ◌}
use Rattle.fz_truth.specs.Listed.{task_of}
use Rattle.fz_truth.proofs.TaskLaws.{ended}
use Rattle.fz_truth.proofs.tasks.usage_at.Goals as goal

pub returns-then-from-clause-is : goal.returns-then-from-clause-is
returns-then-from-clause-is c =
    let late : (c.args.task.start +ℤ c.args.task.duration) ≤ℤ c.args.time = search rules in
    ended (task_of c.args.task) c.args.time late
