use Rattle.std.proofs.Common.{◌≡◌, ◌∙◌, ◌≤◌, ◌<◌, ℕ, [], ◌++◌, sym, ap, ap₂, length, map, fold, get_or, subst}
use Rattle.std.specs.Prelude.{codes, string_bytes}
use Rattle.std.proofs.lemmas.List.{get_or-map, length-map, take_all}
use Rattle.fzn.specs.Complaints.{with_usage}
use Rattle.fz_cmd.proofs.Rules.{fold_more}
use Rattle.fzn.proofs.complaint.with_usages.Goals as goal

pub loop-i-preserved : goal.loop-i-preserved
loop-i-preserved c =
    let lines = map (λ r. r.3.now) c.args.rows.now in
    let i = c.loop-i.i in
    let within : i < length lines = subst (λ (n : ℕ). i < n) (sym (length-map c.args.rows.now (λ r. r.3.now))) c.loop-i-test.true in
    let more = fold_more with_usage c.args.heading.now lines i [] within in
    let pushed = c.in_ok-push_str-3.ensures.bytes ∙ ap (λ t. t ++ codes "\n") (c.in_ok-push_str-2.ensures.bytes ∙ ap₂ (λ s t. s ++ t) c.in_ok-push_str.ensures.bytes (sym (get_or-map (λ r. r.3.now) c.args.rows.now i _ [] c.loop-i-test.true))) in
    pushed ∙ ap (λ t. with_usage t (get_or lines i [])) c.loop-i.invariant ∙ sym more

pub returns : goal.returns
returns c =
    let lines = map (λ r. r.3.now) c.args.rows.now in
    let past : length lines ≤ c.loop-i.i = subst (λ (n : ℕ). n ≤ c.loop-i.i) (sym (length-map c.args.rows.now (λ r. r.3.now))) c.loop-i-test.false in
    c.loop-i.invariant ∙ ap (λ rs. fold with_usage c.args.heading.now rs) (take_all c.loop-i.i lines past)
