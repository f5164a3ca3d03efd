use Rattle.std.proofs.Common.{◌≡◌, ℤ, subst}
use Rattle.std.specs.Prelude.{◌↔◌, IsTrue}
use Rattle.std.proofs.Math.Facts.{to_z-of_z}
use Rattle.fz_spec.specs.Constraints.{term_values}
use Rattle.fz_spec.specs.Truth.{SomeByRecursion}
use Rattle.fz_truth.proofs.numbers.is_greatest.Goals as goal

pub returns-else-some_is : goal.returns-else-some_is
returns-else-some_is c =
    let some =
    subst (λ (u : ℤ). IsTrue c.some_is.result ↔ SomeByRecursion (λ (x : ℤ). x ≡ u) (term_values c.args.values.now c.args.terms.now)) (to_z-of_z c.ranges.greatest) c.some_is.ensures in
    (λ t. cc, λ h. let t = some.1 h.0 in let f = c.if-some_is.false in cc)
