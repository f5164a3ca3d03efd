use Rattle.std.proofs.Common.{rules, pos, ◌∙◌, SFits, w32}
use Rattle.std.proofs.Math.Facts.{to_z-of_z}
use Rattle.fz_spec.specs.declared.term.Term.TheVariants.{Num}
use Rattle.fz_spec.specs.Constraints.{term_value}
use Rattle.fz_truth.proofs.TaskLaws.{task_here, same_task}
use Rattle.fz_truth.proofs.tasks.task_at.Goals as goal

pub returns : goal.returns
returns c =
    let t = c.args.tasks in
    let start : SFits w32 c.value_of.result = search rules in
    let duration : SFits w32 c.value_of-2.result = search rules in
    let usage : SFits w32 c.value_of-3.result = search rules in
    same_task _ _ _ _ _ _ (to_z-of_z start ∙ c.value_of.ensures) (to_z-of_z duration ∙ c.value_of-2.ensures) (to_z-of_z usage ∙ c.value_of-3.ensures)
    ∙ task_here (term_value t.values.now) t.starts.now t.durations.now t.usages.now c.args.i (Num (pos 0)) (Num (pos 0)) (Num (pos 0)) _ c.requires.start c.requires.duration c.requires.usage
