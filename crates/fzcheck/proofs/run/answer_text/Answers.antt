use Rattle.fzcheck.proofs.Outcomes.{judged}
use Rattle.fzcheck.proofs.run.answer_text.Goals as goal

pub returns-in-Ok-Ok-clause-answers : goal.returns-in-Ok-Ok-clause-answers
returns-in-Ok-Ok-clause-answers g c = λ file read.
    judged c.judge.result c.args.text.now c.in-Ok-Ok.model file _ read (rw c.in-Ok-Ok.field-0-is at c.in-Ok-Ok.ensures) c.judge.ensures.judges

pub returns-in-Ok-Err-clause-answers : goal.returns-in-Ok-Err-clause-answers
returns-in-Ok-Err-clause-answers g c = λ file read.
    record { text = c.args.text.now; read = read; refused = (rw c.in-Ok-Err.field-0-is at c.in-Ok-Err.ensures) }
