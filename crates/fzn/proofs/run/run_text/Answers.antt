use Rattle.fzn.proofs.Outcomes.{prints_refusal}
use Rattle.fzn.proofs.run.run_text.Goals as goal

pub returns-in-Ok-Ok-clause-printed : goal.returns-in-Ok-Ok-clause-printed
returns-in-Ok-Ok-clause-printed g c = c.run_model.ensures.printed c.args.text.items (rw c.in-Ok-Ok.field-0-is at c.in-Ok-Ok.ensures)

pub returns-in-Ok-Err-clause-printed : goal.returns-in-Ok-Err-clause-printed
returns-in-Ok-Err-clause-printed g c =
    prints_refusal c.refuse.result c.args.text.items c.in-Ok-Err.refused c.args.options.now _ _ (rw c.in-Ok-Err.field-0-is at c.in-Ok-Err.ensures) c.refuse.ensures.printed
