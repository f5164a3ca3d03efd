use Rattle.std.proofs.Common.{rules, ◌≡◌, ◌∙◌, pos, sym, true}
use Rattle.std.specs.Prelude.{nat_abs, ◌≤ℤ◌}
use Rattle.std.proofs.Math.Facts.{to_z-of_z}
use Rattle.std.proofs.lemmas.Result.{IfOk-weaker}
use mir.Val.{SFits}
use mir.Syntax.{w32}
use Rattle.fz_dom.specs.declared.change.Change.{Change}
use Rattle.fz_prop.specs.Stores.{IsTermChange}
use Rattle.fz_linear.specs.Sides.{seen_from}
use Rattle.fz_linear.specs.Passes.{IsTightened}
use Rattle.fz_linear.proofs.Tight.{seen_size, still, tightened_low, tightened_high}
use Rattle.fz_linear.proofs.pass.tighten.Goals as goal

pub returns-in_default-clause-ok : goal.returns-in_default-clause-ok
returns-in_default-clause-ok c =
    let k = seen_from c.args.side c.args.factor in
    let size : c.unsigned_abs.result ≡ nat_abs k = (rw (to_z-of_z c.ranges.factor) at c.unsigned_abs.ensures.value) ∙ sym (seen_size c.args.side c.args.factor) in
    still k c.args.term c.unsigned_abs.result c.width.result c.args.slack c.args.store.now size c.width.ensures.spanned c.width.ensures.width c.in_default.ensures

pub returns-then-is_low-clause-ok : goal.returns-then-is_low-clause-ok
returns-then-is_low-clause-ok c =
    let k = seen_from c.args.side c.args.factor in
    let r = c.args.store.now in
    let s = c.keep_to.new.store in
    let high = c.above_least-high.result in
    let fits : SFits w32 high = search rules in
    let size : c.unsigned_abs.result ≡ nat_abs k = (rw (to_z-of_z c.ranges.factor) at c.unsigned_abs.ensures.value) ∙ sym (seen_size c.args.side c.args.factor) in
    let rising : pos 0 ≤ℤ k = (rw (to_z-of_z c.ranges.factor) at c.is_low.ensures).0 c.if-is_low.true in
    IfOk-weaker c.keep_to.result (λ (change : Change). IsTermChange change c.args.term (λ x. x ≤ℤ high) r s) (λ (change : Change). IsTightened change k c.args.term (pos c.args.slack) r s)
    (λ change h. tightened_low change k c.args.term c.unsigned_abs.result c.width.result c.args.slack c.in-Some.reach high r s rising size c.requires
    c.width.ensures.spanned c.width.ensures.width c.in-Some.ensures.0 c.in-Some.ensures.1 c.above_least-high.ensures c.keep_to.ensures.shrinks h)
    (rw (to_z-of_z fits) at c.keep_to.ensures.change)

pub returns-clause-ok : goal.returns-clause-ok
returns-clause-ok c =
    let k = seen_from c.args.side c.args.factor in
    let r = c.args.store.now in
    let s = c.keep_from.new.store in
    let low = c.below_greatest-low.result in
    let fits : SFits w32 low = search rules in
    let size : c.unsigned_abs.result ≡ nat_abs k = (rw (to_z-of_z c.ranges.factor) at c.unsigned_abs.ensures.value) ∙ sym (seen_size c.args.side c.args.factor) in
    let told = rw (to_z-of_z c.ranges.factor) at c.is_low.ensures in
    let falling : pos 0 ≤ℤ k → ⊥ = λ h. (let e : c.is_low.result ≡ true = told.1 h in absurd (cc (e, c.if-is_low.false))) in
    IfOk-weaker c.keep_from.result (λ (change : Change). IsTermChange change c.args.term (λ x. low ≤ℤ x) r s) (λ (change : Change). IsTightened change k c.args.term (pos c.args.slack) r s)
    (λ change h. tightened_high change k c.args.term c.unsigned_abs.result c.width.result c.args.slack c.in-Some.reach low r s falling size c.requires
    c.width.ensures.spanned c.width.ensures.width c.in-Some.ensures.0 c.in-Some.ensures.1 c.below_greatest-low.ensures c.keep_from.ensures.shrinks h)
    (rw (to_z-of_z fits) at c.keep_from.ensures.change)
