use Rattle.std.proofs.Common.{◌∙◌, ap, sym, min, length}
use Rattle.fz_spec.specs.Constraints.{term_value}
use Rattle.fz_truth.proofs.TaskLaws.{length_of_tasks}
use Rattle.fz_truth.proofs.tasks.count.Goals as goal

pub returns-clause-all : goal.returns-clause-all
returns-clause-all c =
    let t = c.args.tasks in
    c.min-2.ensures ∙ ap (λ n. min n (length t.usages.now)) c.min.ensures ∙ sym (length_of_tasks (term_value t.values.now) t.starts.now t.durations.now t.usages.now)
