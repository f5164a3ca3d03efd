use Rattle.std.proofs.Common.{◌≡◌, None, refl, inr}
use Rattle.std.specs.Prelude.{IfSome}
use Rattle.fzn.specs.declared.status.Status.TheVariants.{NoMemory}
use Rattle.fzn.specs.Promises.{AnswersAccepted, AnswersPart, AnswersRefused, HasReadAll, HasSelected, IsDoneOrShort, IsUnrefused, SelectsOnce, text_for}
use Rattle.fzn.proofs.Outcomes.{answers_accepted, answers_part, answers_refused, at_options, runs_short, whatever, where_given, whichever}
use Rattle.fzn.proofs.run.fzn.Goals as goal

pub returns-in-Ok-Some-clause-accepted : goal.returns-in-Ok-Some-clause-accepted
returns-in-Ok-Some-clause-accepted g c = λ source sink.
    at_options _ (λ o. o.part ≡ None → AnswersAccepted c.run_with.result (text_for o (g.R.Source.texts c.args.source.now o.file))) c.in-Ok-Some.options (rw c.in-Ok-Some.field-0-is at c.in-Ok-Some.ensures)
    (λ whole. answers_accepted c.run_with.result _ _ _ _ _ _ _ _ whole c.run_with.ensures.printed c.run_with.ensures.cause c.run_with.ensures.used source sink)

pub returns-in-Ok-Some-clause-parted : goal.returns-in-Ok-Some-clause-parted
returns-in-Ok-Some-clause-parted g c = λ source sink.
    at_options _ (λ o. IfSome o.part (λ part. AnswersPart c.run_with.result part o.better (text_for o (g.R.Source.texts c.args.source.now o.file)))) c.in-Ok-Some.options (rw c.in-Ok-Some.field-0-is at c.in-Ok-Some.ensures)
    (where_given c.in-Ok-Some.options.part _ (λ part is. answers_part c.run_with.result c.in-Ok-Some.options part _ _ _ _ _ _ _ is c.run_with.ensures.printed c.run_with.ensures.cause c.run_with.ensures.used source sink))

pub returns-in-Ok-Some-clause-refused : goal.returns-in-Ok-Some-clause-refused
returns-in-Ok-Some-clause-refused g c = λ source sink.
    at_options _ (λ o. AnswersRefused c.run_with.result (text_for o (g.R.Source.texts c.args.source.now o.file))) c.in-Ok-Some.options (rw c.in-Ok-Some.field-0-is at c.in-Ok-Some.ensures)
    (answers_refused c.run_with.result _ _ _ _ _ _ _ _ c.run_with.ensures.printed c.run_with.ensures.cause c.run_with.ensures.used source sink)

pub returns-in-Err-clause-selected : goal.returns-in-Err-clause-selected
returns-in-Err-clause-selected g c =
    let was = g.R.Source.selections c.args.source.now in
    whatever _ (λ o. o.generate ≡ None → HasSelected NoMemory was was (g.R.Source.is_selected c.args.source.now o.file)) (λ o none. inr refl)

pub returns-in-Err-clause-once : goal.returns-in-Err-clause-once
returns-in-Err-clause-once g c =
    let was = g.R.Source.selections c.args.source.now in
    whatever _ (λ o. o.generate ≡ None → SelectsOnce NoMemory was was) (λ o none. inr refl)

pub returns-in-Err-clause-whole : goal.returns-in-Err-clause-whole
returns-in-Err-clause-whole g c = whatever _ (λ o. o.generate ≡ None → HasReadAll NoMemory (g.R.Source.left c.args.source.now)) (λ o none. tt)

pub returns-in-Err-clause-generated : goal.returns-in-Err-clause-generated
returns-in-Err-clause-generated g c = whatever _ _ (λ o. whichever o.generate refl)

pub returns-in-Err-clause-printed : goal.returns-in-Err-clause-printed
returns-in-Err-clause-printed g c = whatever _ _ (λ o. runs_short o _ _)

pub returns-in-Err-clause-accepted : goal.returns-in-Err-clause-accepted
returns-in-Err-clause-accepted g c = λ source sink.
    whatever _ (λ o. o.part ≡ None → AnswersAccepted NoMemory (text_for o (g.R.Source.texts c.args.source.now o.file))) (λ o whole text m is reads. inr refl)

pub returns-in-Err-clause-parted : goal.returns-in-Err-clause-parted
returns-in-Err-clause-parted g c = λ source sink.
    whatever _ (λ o. IfSome o.part (λ part. AnswersPart NoMemory part o.better (text_for o (g.R.Source.texts c.args.source.now o.file))))
    (λ o. where_given o.part _ (λ part is text m same reads. (λ has. inr refl, λ lacks. inr refl)))

pub returns-in-Err-clause-refused : goal.returns-in-Err-clause-refused
returns-in-Err-clause-refused g c = λ source sink.
    whatever _ (λ o. AnswersRefused NoMemory (text_for o (g.R.Source.texts c.args.source.now o.file))) (λ o text code line column is reads. inr refl)

pub returns-in-Err-clause-unrefused : goal.returns-in-Err-clause-unrefused
returns-in-Err-clause-unrefused g c = whatever _ (λ o. IfSome o.generate (λ _. IsUnrefused NoMemory)) (λ o. whichever o.generate (inr (inr refl)))

pub returns-in-Err-clause-made : goal.returns-in-Err-clause-made
returns-in-Err-clause-made g c = λ sink.
    whatever _ (λ o. IfSome o.generate (λ _. IsDoneOrShort NoMemory)) (λ o. whichever o.generate (inr refl))
