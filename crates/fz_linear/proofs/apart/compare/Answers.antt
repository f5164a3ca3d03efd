use Rattle.std.proofs.Common.{rules, ◌≡◌, ◌∙◌, sym, ap, to_z, of_z}
use Rattle.std.proofs.Math.Facts.{to_z-of_z}
use mir.Val.{SFits}
use mir.Syntax.{w128}
use Rattle.fz_linear.proofs.Gaps.{all_apart, all_equal}
use Rattle.fz_linear.proofs.apart.compare.Goals as goal

pub returns-then-ends_of-from : goal.returns-then-ends_of-from
returns-then-ends_of-from c =
    let fits_sum : SFits w128 c.ends_of.result.least = search rules in
    let fits_from : SFits w128 c.from.result = search rules in
    let from_is = rw (to_z-of_z c.ranges.number) at c.from.ensures in
    let whole : to_z w128 (of_z w128 c.ends_of.result.least) ≡ to_z w128 (of_z w128 c.from.result) = ap (to_z w128) c.if-ends_of-from.true in
    let same : c.ends_of.result.least ≡ c.args.number = rw (to_z-of_z fits_sum, to_z-of_z fits_from, from_is) at whole in
    all_equal c.args.sum.now.factors.now c.args.sum.now.terms.now c.args.number c.ends_of.result.least c.args.store.now c.requires.fixed c.requires.inside c.ends_of.ensures.least same

pub returns-else-ends_of-from : goal.returns-else-ends_of-from
returns-else-ends_of-from c =
    let from_is = rw (to_z-of_z c.ranges.number) at c.from.ensures in
    all_apart c.args.sum.now.factors.now c.args.sum.now.terms.now c.args.number c.ends_of.result.least c.args.store.now c.requires.fixed c.requires.inside c.ends_of.ensures.least
    (λ e. c.if-ends_of-from.false (ap (of_z w128) (e ∙ sym from_is)))
