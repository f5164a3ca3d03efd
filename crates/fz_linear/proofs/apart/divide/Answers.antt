use Rattle.std.proofs.Common.{rules, ◌≡◌, ◌∙◌, sym, ap, true, of_z}
use Rattle.std.proofs.Math.Facts.{to_z-of_z}
use mir.Val.{SFits}
use mir.Syntax.{w32, w128}
use Rattle.std.specs.Int.RustNames.{FitsSigned}
use Rattle.fz_num.specs.Quotients.{IsFloor}
use Rattle.fz_linear.proofs.Factors.{quotient_is, no_fitting, missed}
use Rattle.fz_linear.proofs.apart.divide.Goals as goal

pub returns-in-Ok : goal.returns-in-Ok
returns-in-Ok c =
    let q = c.floor_div-quotient.result in
    let fits : SFits w128 q = search rules in
    let fits_from : SFits w128 c.from.result = search rules in
    let fits_value : SFits w32 c.in-Ok.value = search rules in
    let from_is = rw (to_z-of_z c.ranges.factor) at c.from.ensures in
    let floor : IsFloor c.args.product c.args.factor q = rw (to_z-of_z c.ranges.product, to_z-of_z fits_from, from_is) at c.floor_div-quotient.ensures in
    let value_is : c.in-Ok.value ≡ q = rw (to_z-of_z fits) at c.in-Ok.ensures.1 in
    let told = rw (to_z-of_z c.ranges.factor, to_z-of_z fits_value, to_z-of_z c.ranges.product) at c.is_product.ensures in
    rw (to_z-of_z fits_value)
    (told.0 c.if-is_product.true, λ x e. quotient_is c.args.factor x q c.args.product (λ z. c.if-factor-eq0.false (ap (of_z w32) z)) floor e ∙ sym value_is)

pub returns-in_default : goal.returns-in_default
returns-in_default c =
    let q = c.floor_div-quotient.result in
    let fits : SFits w128 q = search rules in
    let fits_from : SFits w128 c.from.result = search rules in
    let fits_value : SFits w32 c.in-Ok.value = search rules in
    let from_is = rw (to_z-of_z c.ranges.factor) at c.from.ensures in
    let floor : IsFloor c.args.product c.args.factor q = rw (to_z-of_z c.ranges.product, to_z-of_z fits_from, from_is) at c.floor_div-quotient.ensures in
    let value_is : c.in-Ok.value ≡ q = rw (to_z-of_z fits) at c.in-Ok.ensures.1 in
    let told = rw (to_z-of_z c.ranges.factor, to_z-of_z fits_value, to_z-of_z c.ranges.product) at c.is_product.ensures in
    λ x limits. missed c.args.factor c.in-Ok.value c.args.product (λ e. let yes : c.is_product.result ≡ true = told.1 e in absurd (cc (yes, c.if-is_product.false)))
    q (λ z. c.if-factor-eq0.false (ap (of_z w32) z)) floor value_is x

pub returns-in_default-2 : goal.returns-in_default-2
returns-in_default-2 c =
    let q = c.floor_div-quotient.result in
    let fits : SFits w128 q = search rules in
    let fits_from : SFits w128 c.from.result = search rules in
    let from_is = rw (to_z-of_z c.ranges.factor) at c.from.ensures in
    let floor : IsFloor c.args.product c.args.factor q = rw (to_z-of_z c.ranges.product, to_z-of_z fits_from, from_is) at c.floor_div-quotient.ensures in
    let wide : FitsSigned w32 q → ⊥ = rw (to_z-of_z fits) at c.in_default.ensures in
    no_fitting c.args.factor q c.args.product (λ z. c.if-factor-eq0.false (ap (of_z w32) z)) floor wide
