use Rattle.std.proofs.Common.{◌≡◌, ℤ, ◌+◌, pos, rules, get_or, subst}
use Rattle.std.specs.Prelude.{◌↔◌, IsTrue}
use Rattle.std.proofs.Math.Facts.{to_z-of_z}
use Rattle.fz_spec.specs.declared.term.Term.TheVariants.{Num}
use Rattle.fz_spec.specs.Constraints.{term_value}
use Rattle.fz_truth.proofs.ListLaws.{element_at, no_element}
use Rattle.fz_truth.proofs.element.is_term_element.Goals as goal

pub returns-then-place-terms : goal.returns-then-place-terms
returns-then-place-terms c =
    let place : c.args.index ≡ pos (c.in-Some.place + 1) = search rules in
    (λ t. cc, λ e. absurd (no_element (term_value c.args.values.now) c.args.terms.now c.args.index c.in-Some.place c.args.number place c.if-place-terms.true e))

pub returns : goal.returns
returns c =
    let place : c.args.index ≡ pos (c.in-Some.place + 1) = search rules in
    element_at (term_value c.args.values.now) c.args.terms.now c.args.index c.in-Some.place (Num (pos 0)) c.args.number c.has_value.result place c.if-place-terms.false
    (subst (λ (u : ℤ). IsTrue c.has_value.result ↔ (term_value c.args.values.now (get_or c.args.terms.now c.in-Some.place (Num (pos 0))) ≡ u)) (to_z-of_z c.ranges.number) c.has_value.ensures)
