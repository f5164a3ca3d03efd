use Rattle.std.proofs.Common.{◌∙◌, ap, sym, length}
use Rattle.std.specs.Prelude.{Some}
use Rattle.fz_refutes.specs.Trees.{lines_of}
use Rattle.fz_cert.proofs.Heading.{certificate_is, none_guessed, best_guessed}
use Rattle.fz_cert.proofs.guess.head.Goals as goal

pub returns-in_default : goal.returns-in_default
returns-in_default c = λ head proof. none_guessed head (lines_of proof.tree) c.behind_z-certificate.result.now
    (certificate_is c.args.model.now head c.args.output.now c.behind_z-certificate.result.now proof c.variables-count.ensures.kept c.behind_z-certificate.ensures) c.in_default.ensures.none

pub returns : goal.returns
returns c = λ head proof. ap Some (c.in_ok-new.ensures ∙ c.deref.ensures.value) ∙ best_guessed c.args.model.now head (lines_of proof.tree) c.behind_z-certificate.result.now c.in-Some.best.now c.in_ok-values.values.items c.variables-count.ensures.kept proof.is_head
    (certificate_is c.args.model.now head c.args.output.now c.behind_z-certificate.result.now proof c.variables-count.ensures.kept c.behind_z-certificate.ensures) c.in-Some.ensures.some
    (λ a rest counts are at. c.in_ok-values.ensures.values a rest (counts ∙ ap length (sym c.variables-count.ensures.variables)) are at)
