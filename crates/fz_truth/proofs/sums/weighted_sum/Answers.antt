use Rattle.std.proofs.Common.{◌≡◌, ℤ, ◌+◌, ◌<◌, ◌^◌, ◌*ℤ◌, ◌+ℤ◌, ◌∷◌, [], map, length, rules, arith, refl, sym, ap, ◌∙◌, subst, Some, to_z, of_z, length-append}
use Rattle.std.specs.Int.{w128}
use Rattle.std.specs.Int.RustNames.{FitsSigned}
use Rattle.std.specs.Slice.Iter.{iter_rest}
use Rattle.std.specs.Iterator.Adapters.{zip_first, zip_second}
use Rattle.std.proofs.lemmas.Int.{to_z-of_z}
use Rattle.std.proofs.lemmas.List.{length-map}
use Rattle.std.proofs.lemmas.Slice.Zip.{zip_turn, zip_end}
use Rattle.fz_spec.specs.Constraints.{term_value}
use Rattle.fz_truth.proofs.SumLaws.{none, fits, product_fits, step, written, ended}
use Rattle.fz_truth.proofs.sums.weighted_sum.Goals as goal

pub overflow_add-sum : goal.overflow_add-sum
overflow_add-sum c =
    let first : iter_rest (zip_first c.into_iter-coefficient-iterator.result) ≡ c.args.coefficients.now = search rules in
    let second : iter_rest (zip_second c.into_iter-coefficient-iterator.result) ≡ c.args.terms.now = search rules in
    let turn = zip_turn c.args.coefficients.now c.args.terms.now c.loop-coefficient.yielded c.into_iter-coefficient-iterator.result c.loop-coefficient.coefficient-iterator c.next.new.self
    (Some (c.in-Some.coefficient, c.in-Some.term)) first second c.loop-coefficient.yielded_by (c.in-Some.coefficient, c.in-Some.term) refl c.in-Some.ensures.steps in
    let few : length c.loop-coefficient.yielded < 2 ^ 64 = omega (arith, turn.0, c.iter.ensures.bound, c.iter.ensures.len) in
    subst (λ (u : ℤ). FitsSigned w128 u) (sym (ap (λ v. to_z w128 c.loop-coefficient.sum-bits +ℤ v) (to_z-of_z w128 c.product-sum.result (product_fits c.product-sum.result c.product-sum.ensures.near))))
    (fits (length c.loop-coefficient.yielded) (to_z w128 c.loop-coefficient.sum-bits) c.product-sum.result c.loop-coefficient.invariant.near c.product-sum.ensures.near few)

pub loop-coefficient-init : goal.loop-coefficient-init
loop-coefficient-init c = none c.args.coefficients.now (map (term_value c.args.values.now) c.args.terms.now)

pub loop-coefficient-preserved : goal.loop-coefficient-preserved
loop-coefficient-preserved c =
    let first : iter_rest (zip_first c.into_iter-coefficient-iterator.result) ≡ c.args.coefficients.now = search rules in
    let second : iter_rest (zip_second c.into_iter-coefficient-iterator.result) ≡ c.args.terms.now = search rules in
    let turn = zip_turn c.args.coefficients.now c.args.terms.now c.loop-coefficient.yielded c.into_iter-coefficient-iterator.result c.loop-coefficient.coefficient-iterator c.next.new.self
    (Some (c.in-Some.coefficient, c.in-Some.term)) first second c.loop-coefficient.yielded_by (c.in-Some.coefficient, c.in-Some.term) refl c.in-Some.ensures.steps in
    let few : length c.loop-coefficient.yielded < 2 ^ 64 = omega (arith, turn.0, c.iter.ensures.bound, c.iter.ensures.len) in
    let is : c.product-sum.result ≡ c.in-Some.coefficient.now *ℤ c.value_of.result = search (rules, to_z-of_z) in
    let sum = ap (λ v. to_z w128 c.loop-coefficient.sum-bits +ℤ v) (to_z-of_z w128 c.product-sum.result (product_fits c.product-sum.result c.product-sum.ensures.near)) in
    let total = to_z-of_z w128 (to_z w128 c.loop-coefficient.sum-bits +ℤ to_z w128 (of_z w128 c.product-sum.result))
    (subst (λ (u : ℤ). FitsSigned w128 u) (sym sum) (fits (length c.loop-coefficient.yielded) (to_z w128 c.loop-coefficient.sum-bits) c.product-sum.result c.loop-coefficient.invariant.near c.product-sum.ensures.near few)) in
    written c.args.coefficients.now (map (term_value c.args.values.now) c.args.terms.now) (length c.loop-coefficient.yielded + 1) _ ((to_z w128 c.loop-coefficient.sum-bits) +ℤ c.product-sum.result) _
    (length-append c.loop-coefficient.yielded ((c.in-Some.coefficient, c.in-Some.term) ∷ [])) (total ∙ sum)
    (step c.args.coefficients.now c.args.terms.now c.args.values.now (length c.loop-coefficient.yielded) (to_z w128 c.loop-coefficient.sum-bits) c.in-Some.coefficient.now c.value_of.result c.product-sum.result c.in-Some.term.now c.loop-coefficient.invariant turn.0 turn.1 turn.2 turn.3 c.value_of.ensures is c.product-sum.ensures.near)

pub returns : goal.returns
returns c =
    let first : iter_rest (zip_first c.into_iter-coefficient-iterator.result) ≡ c.args.coefficients.now = search rules in
    let second : iter_rest (zip_second c.into_iter-coefficient-iterator.result) ≡ c.args.terms.now = search rules in
    let end = zip_end c.args.coefficients.now c.args.terms.now c.loop-coefficient.yielded c.into_iter-coefficient-iterator.result c.loop-coefficient.coefficient-iterator c.next.new.self c.next.result first
    second c.loop-coefficient.yielded_by c.in-None.is c.next.ensures.steps in
    ended c.args.coefficients.now (map (term_value c.args.values.now) c.args.terms.now) (length c.loop-coefficient.yielded) (length c.args.terms.now) (to_z w128 c.loop-coefficient.sum-bits) c.loop-coefficient.invariant
    (sym (length-map c.args.terms.now (term_value c.args.values.now))) end
