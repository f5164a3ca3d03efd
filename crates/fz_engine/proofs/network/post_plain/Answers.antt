use Rattle.std.proofs.Common.{inr, rules}
use Rattle.std.proofs.lemmas.Result.{on_ok_weaker}
use Rattle.fz_plain.specs.Plain.{IsPlainForm, plain_said}
use Rattle.fz_says.specs.Fits.{IsFit}
use Rattle.fz_says.specs.Said.{said_by}
use Rattle.fz_engine.proofs.network.post_plain.Goals.{After-post_fit-arg-in-Some-1}
use Rattle.fz_engine.proofs.network.post_plain.Goals as goal

plain_fit : (c : After-post_fit-arg-in-Some-1) → IsFit c.args.variables.now (said_by c.saying.result)
plain_fit c =
    let is : IsPlainForm (said_by c.args.saying.now) (plain_said c.in-Some.plain) = search rules in
    rw c.saying.ensures (is.form.fits c.args.variables.now c.requires.fit)

pub post_fit-requires-clause-fit : goal.post_fit-requires-clause-fit
post_fit-requires-clause-fit c = plain_fit c

pub returns-in-Some-clause-said : goal.returns-in-Some-clause-said
returns-in-Some-clause-said c =
    let is : IsPlainForm (said_by c.args.saying.now) (plain_said c.in-Some.plain) = search rules in
    on_ok_weaker c.post_fit.result (λ posted. inr (plain_said c.in-Some.plain, is.form, rw c.saying.ensures at posted)) c.post_fit.ensures.said
