use Rattle.std.proofs.Common.{◌≡◌, ℤ, ◌+◌, pos, rules, SFits, w32, subst, ◌∙◌}
use Rattle.std.specs.Prelude.{◌↔◌, IsTrue}
use Rattle.std.proofs.Math.Facts.{to_z-of_z}
use Rattle.fz_spec.specs.declared.term.Term.TheVariants.{Num}
use Rattle.fz_spec.specs.Constraints.{term_value}
use Rattle.fz_truth.proofs.ListLaws.{element_at, no_element}
use Rattle.fz_truth.proofs.inverse.points_back.Goals as goal

pub returns-then-at-others : goal.returns-then-at-others
returns-then-at-others c =
    let place : c.args.index ≡ pos (c.in-Some.at + 1) = search rules in
    (λ t. cc, λ e. absurd (no_element (term_value c.args.values.now) c.args.others.now c.args.index c.in-Some.at (pos (c.args.place + 1)) place c.if-at-others.true e))

pub returns : goal.returns
returns c =
    let place : c.args.index ≡ pos (c.in-Some.at + 1) = search rules in
    let fits : SFits w32 c.value_of.result = search rules in
    element_at (term_value c.args.values.now) c.args.others.now c.args.index c.in-Some.at (Num (pos 0)) (pos (c.args.place + 1)) c.is_place.result place c.if-at-others.false
    (subst (λ (u : ℤ). IsTrue c.is_place.result ↔ (u ≡ pos (c.args.place + 1))) (to_z-of_z fits ∙ c.value_of.ensures) c.is_place.ensures)
