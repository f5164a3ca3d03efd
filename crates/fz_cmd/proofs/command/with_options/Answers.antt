use Rattle.std.proofs.Common.{◌≡◌, ◌∙◌, ◌≤◌, ◌<◌, ℕ, sym, ap, ap₂, length, map, fold, get_or, subst}
use Rattle.std.proofs.lemmas.List.{get_or-map, length-map, take_all}
use Rattle.clap.specs.Words.{app_of, rule_of, with_rule}
use Rattle.fz_cmd.specs.Command.{rule_of_row, file_rule}
use Rattle.fz_cmd.proofs.Rules.{fold_more}
use Rattle.fz_cmd.proofs.command.with_options.Goals as goal

pub loop-i-preserved : goal.loop-i-preserved
loop-i-preserved c =
    let rules = map rule_of_row c.args.rows.now in
    let i = c.loop-i.i in
    let within : i < length rules = subst (λ (n : ℕ). i < n) (sym (length-map c.args.rows.now rule_of_row)) c.loop-i-test.true in
    let more = fold_more with_rule (app_of c.args.command) rules i file_rule within in
    let rule : rule_of c.option_arg.result ≡ get_or rules i file_rule = c.option_arg.ensures.rule ∙ sym (get_or-map rule_of_row c.args.rows.now i _ file_rule c.loop-i-test.true) in
    c.in_ok-command.ensures.shape c.option_arg.ensures.local ∙ ap₂ with_rule c.loop-i.invariant rule ∙ sym more

pub returns : goal.returns
returns c =
    let rules = map rule_of_row c.args.rows.now in
    let past : length rules ≤ c.loop-i.i = subst (λ (n : ℕ). n ≤ c.loop-i.i) (sym (length-map c.args.rows.now rule_of_row)) c.loop-i-test.false in
    c.loop-i.invariant ∙ ap (λ rs. fold with_rule (app_of c.args.command) rs) (take_all c.loop-i.i rules past)
