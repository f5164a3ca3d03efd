use Rattle.std.proofs.Common.{◌∙◌, ap}
use Rattle.fz_part.specs.Texts.{part_text}
use Rattle.fz_part.proofs.Meeting.{written, not_wrong, refuses}
use Rattle.fz_part.proofs.part.Part.parse.Goals as goal

pub returns-in_default-clause-exact : goal.returns-in_default-clause-exact
returns-in_default-clause-exact c = λ p of_model is. rw c.in_default.is at (c.in_ok-decisions.ensures p (written c.args.model.now p c.variables-variables.ensures.kept of_model) is)

pub returns-then-not-is_text-clause-exact : goal.returns-then-not-is_text-clause-exact
returns-then-not-is_text-clause-exact c = λ p of_model is.
    let same = rw c.in-Some.is at (c.in_ok-decisions.ensures p (written c.args.model.now p c.variables-variables.ensures.kept of_model) is) in
    let yes = c.in_ok-is_text.ensures.1 (ap part_text (c.as_slice-read.ensures.value ∙ same) ∙ is) in cc

pub returns-in-Some-refusal_in-clause-exact : goal.returns-in-Some-refusal_in-clause-exact
returns-in-Some-refusal_in-clause-exact c = λ p of_model is.
    let same = rw c.in-Some.is at (c.in_ok-decisions.ensures p (written c.args.model.now p c.variables-variables.ensures.kept of_model) is) in
    not_wrong c.in-Some-refusal_in.refusal c.args.model.now c.variables-variables.result.now c.as_slice-read.result.now p c.variables-variables.ensures.variables (c.as_slice-read.ensures.value ∙ same) c.in-Some-refusal_in.ensures.some of_model

pub returns-in-Some-refusal_in-clause-refused : goal.returns-in-Some-refusal_in-clause-refused
returns-in-Some-refusal_in-clause-refused c =
    refuses c.in-Some-refusal_in.refusal c.args.model.now c.variables-variables.result.now c.args.text.now c.as_slice-read.result.now c.variables-variables.ensures.variables (c.in_ok-is_text.ensures.0 c.if-not-is_text.false) c.in-Some-refusal_in.ensures.some

pub returns-in-None-clause-exact : goal.returns-in-None-clause-exact
returns-in-None-clause-exact c = λ p of_model is. rw c.in-Some.is at (c.in_ok-decisions.ensures p (written c.args.model.now p c.variables-variables.ensures.kept of_model) is)
