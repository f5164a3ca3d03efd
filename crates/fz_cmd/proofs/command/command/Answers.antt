use Rattle.std.proofs.Common.{◌≡◌, ◌∙◌, ap, ap₂, fold}
use Rattle.std.proofs.lemmas.Result.{IfOk-weaker}
use Rattle.clap.specs.Words.{app_of, with_rule}
use Rattle.fz_cmd.specs.Command.{option_rules, plain_app, fzn_app}
use Rattle.fz_cmd.proofs.command.command.Goals as goal

pub returns : goal.returns
returns c =
    let all : app_of c.in_ok-with_options.field-0 ≡ fold with_rule plain_app option_rules = c.in_ok-with_options.ensures ∙ ap (λ app. fold with_rule app option_rules) c.plain.ensures in
    IfOk-weaker c.arg.result _ (λ made. app_of made ≡ fzn_app) (λ made adds. adds.shape c.file_arg.ensures.local ∙ ap₂ with_rule all c.file_arg.ensures.rule) c.arg.ensures
