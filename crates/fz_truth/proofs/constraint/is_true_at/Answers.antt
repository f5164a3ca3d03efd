use Rattle.std.proofs.Common.{◌≡◌, rules, ap, sym, subst}
use Rattle.std.specs.Prelude.{◌↔◌, IsTrue}
use Rattle.fz_sets.specs.Sets.{IsInSet}
use Rattle.fz_spec.specs.Constraints.{Constraint, term_value, IsTrueOf}
use Rattle.fz_model.specs.Groups.{constraint_at, within}
use Rattle.fz_truth.proofs.Exchanges.{lies_within}
use Rattle.fz_truth.proofs.constraint.is_true_at.Goals as goal

pub returns-in-Element : goal.returns-in-Element
returns-in-Element c =
    let a = c.args.values.now in
    let set = c.in-Element.set.now.value in
    let holds : IsTrue c.contains.result ↔ IsInSet set (term_value a c.in-Element.term) = search rules in
    let lies = lies_within set c.in-Element.term a in
    let is : constraint_at c.args.constraint ≡ within set c.in-Element.term = ap constraint_at c.in-Element.is in
    subst (λ (k : Constraint). IsTrue c.contains.result ↔ IsTrueOf a k) (sym is) ((λ t. lies.0 (holds.0 t)), (λ h. holds.1 (lies.1 h)))
