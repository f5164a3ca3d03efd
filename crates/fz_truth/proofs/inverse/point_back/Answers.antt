use Rattle.std.proofs.Common.{ℤ, pos, rules, SFits, w32, refl, sym, ◌+◌, subst}
use Rattle.std.proofs.Math.Facts.{to_z-of_z}
use Rattle.fz_spec.specs.declared.term.Term.TheVariants.{Num}
use Rattle.fz_spec.specs.Constraints.{term_value, term_values}
use Rattle.fz_spec.specs.Truth.{IsElement}
use Rattle.fz_truth.proofs.InverseLaws.{one_more, all_before, not_back}
use Rattle.fz_truth.proofs.inverse.point_back.Goals as goal

pub returns-then-not-points_back : goal.returns-then-not-points_back
returns-then-not-points_back c =
    let a = term_value c.args.values.now in
    let gs = term_values c.args.values.now c.args.others.now in
    let fits : SFits w32 c.value_of.result = search rules in (
      λ t. cc,
      λ h.
          let back = not_back a c.args.terms.now gs c.loop-i.i c.value_of.result (Num (pos 0)) c.loop-i-test.true c.value_of.ensures h in
          let t = c.if-not-points_back.ensures.1 (subst (λ (u : ℤ). IsElement u gs (pos (c.loop-i.i + 1))) (sym (to_z-of_z fits)) back) in
          cc,
    )

pub loop-i-preserved : goal.loop-i-preserved
loop-i-preserved c =
    let gs = term_values c.args.values.now c.args.others.now in
    let fits : SFits w32 c.value_of.result = search rules in
    let back = subst (λ (u : ℤ). IsElement u gs (pos (c.loop-i.i + 1))) (to_z-of_z fits) (c.if-not-points_back.ensures.0 refl) in
    one_more (term_value c.args.values.now) c.args.terms.now gs c.loop-i.i c.value_of.result (Num (pos 0)) c.loop-i-test.true c.value_of.ensures back c.loop-i.invariant

pub returns : goal.returns
returns c = (λ t. all_before (term_value c.args.values.now) c.args.terms.now (term_values c.args.values.now c.args.others.now) c.loop-i.i c.loop-i-test.false c.loop-i.invariant, λ h. refl)
