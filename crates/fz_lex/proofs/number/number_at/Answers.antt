use Rattle.std.proofs.Common.{rules, ◌∙◌}
use Rattle.std.proofs.lemmas.Int.{to_z-of_z}
use mir.Syntax.{w32}
use mir.Val.{SFits}
use Rattle.fz_lex.proofs.Runs.{run_some}
use Rattle.fz_lex.proofs.NumberTokens.{natural_found}
use Rattle.fz_lex.proofs.Founds.{no_number, float_found, large_found, number_found, sign_of_start, differs, agrees}
use Rattle.fz_lex.proofs.number.number_at.Goals as goal

pub returns-in_default : goal.returns-in_default
returns-in_default c = no_number c.args.text.now c.args.at c.number_start-from.result c.requires.within c.number_start-from.ensures c.in_default.ensures

pub returns-in-Some-float_end : goal.returns-in-Some-float_end
returns-in-Some-float_end c =
    let d = c.in-Some.ensures in
    float_found c.args.text.now c.args.at c.number_start-from.result c.in-Some.whole.stop _ c.number_start-from.ensures d.are (run_some d.are d.within d.first) c.in-Some-float_end.ensures

pub returns-then-natural-eq-OVER : goal.returns-then-natural-eq-OVER
returns-then-natural-eq-OVER c =
    let d = c.in-Some.ensures in
    let text = c.args.text.now in
    let from = c.number_start-from.result in
    let s = sign_of_start text c.args.at from c.number_start-from.ensures in
    let f = natural_found text from c.in-Some.whole c.natural-natural.result d.are (run_some d.are d.within d.first) d.value c.natural-natural.ensures in
    large_found text c.args.at from s.0 c.in-Some.whole c.natural-natural.result c.number_start-from.ensures s.1 s.2 d.are c.in_default-float_end.ensures c.natural-natural.ensures f c.if-natural-eq-OVER.true

pub returns : goal.returns
returns c =
    let d = c.in-Some.ensures in
    let text = c.args.text.now in
    let from = c.number_start-from.result in
    let f = natural_found text from c.in-Some.whole c.natural-natural.result d.are (run_some d.are d.within d.first) d.value c.natural-natural.ensures in
    let fits : SFits w32 c.signed.result = search rules in
    number_found text c.args.at from _ _ c.in-Some.whole c.natural-natural.result c.number_start-from.ensures (differs text c.args.at from c.number_start-from.ensures) (agrees text c.args.at from c.number_start-from.ensures) d.are c.in_default-float_end.ensures c.natural-natural.ensures f c.if-natural-eq-OVER.false (to_z-of_z w32 c.signed.result fits ∙ c.signed.ensures)
