use Rattle.std.proofs.Common.{refl, rules, sym, subst, add-one, map, drop, SFits, w32}
use Rattle.std.proofs.Math.Facts.{to_z-of_z}
use Rattle.fz_spec.specs.Constraints.{term_value}
use Rattle.fz_spec.specs.Truth.{AreDifferent}
use Rattle.fz_truth.proofs.ListLaws.{twice, once, none_left, along, behind}
use Rattle.fz_truth.proofs.terms.are_different.Goals as goal

pub returns-then-some_is : goal.returns-then-some_is
returns-then-some_is c = (
  λ t. cc,
  λ d. absurd
      (let fits : SFits w32 c.value_of.result = search rules in
      twice (term_value c.args.values.now) c.args.terms.now c.loop-i.i _ c.value_of.result c.loop-i-test.true c.value_of.ensures
      (along (term_value c.args.values.now) _ _ _ _ (behind c.args.terms.now c.loop-i.i) (to_z-of_z fits) (c.if-some_is.ensures.0 refl)) d),
)

pub loop-i-preserved : goal.loop-i-preserved
loop-i-preserved c =
    λ d. c.loop-i.invariant
    (let fits : SFits w32 c.value_of.result = search rules in
    once (term_value c.args.values.now) c.args.terms.now c.loop-i.i _ c.value_of.result c.loop-i-test.true c.value_of.ensures
    (λ s. let t = c.if-some_is.ensures.1 (along (term_value c.args.values.now) _ _ _ _ (sym (behind c.args.terms.now c.loop-i.i)) (sym (to_z-of_z fits)) s) in cc)
    (subst (λ n. AreDifferent (map (term_value c.args.values.now) (drop n c.args.terms.now))) (add-one c.loop-i.i) d))

pub returns : goal.returns
returns c = (λ t. c.loop-i.invariant (none_left (term_value c.args.values.now) c.args.terms.now c.loop-i.i c.loop-i-test.false), λ d. refl)
