use Rattle.std.proofs.Common.{rules, slice_index_or, pos, arith}
use Rattle.std.proofs.Math.Facts.{to_z-of_z}
use mir.Val.{SFits}
use mir.Syntax.{w32, w128}
use Rattle.fz_spec.specs.declared.term.Term.TheVariants.{Num}
use Rattle.fz_linear.proofs.Slacks.{term_at}
use Rattle.fz_linear.proofs.Summing.{at_place}
use Rattle.fz_linear.proofs.Gaps.{has_sum, limits_at, none_excluded, each_excluded, value_correct, value_settled}
use Rattle.fz_linear.proofs.apart.exclude.Goals as goal

pub returns-in-None-clause-answer : goal.returns-in-None-clause-answer
returns-in-None-clause-answer c =
    let ks = c.args.sum.now.factors.now in
    let ts = c.args.sum.now.terms.now in
    let i = c.args.place in
    let k = slice_index_or ks i (pos 0) in
    let t = slice_index_or ts i (Num (pos 0)) in
    let r = c.args.store.now in
    let product = c.forbidden-product.result in
    let fits_factor : SFits w32 k = search rules in
    let fits_product : SFits w128 product = search rules in
    let product_is = rw (to_z-of_z c.ranges.number) at c.forbidden-product.ensures.product in
    let at = at_place ks ts i c.requires.law.same (omega (arith, c.requires.law.same, c.requires.place)) in
    let sums = has_sum ks ts i c.args.number k t product r c.requires.others at c.requires.inside product_is in
    none_excluded ks ts c.args.number k t product r (term_at ks ts i _ k t at c.requires.inside)
    (limits_at ks ts i k t r.doms at c.forbidden-product.ensures.domains c.requires.inside c.requires.fits) sums (rw (to_z-of_z fits_factor, to_z-of_z fits_product) at c.in-None.ensures)

pub returns-in-Each-clause-answer : goal.returns-in-Each-clause-answer
returns-in-Each-clause-answer c =
    let ks = c.args.sum.now.factors.now in
    let ts = c.args.sum.now.terms.now in
    let i = c.args.place in
    let k = slice_index_or ks i (pos 0) in
    let t = slice_index_or ts i (Num (pos 0)) in
    let r = c.args.store.now in
    let product = c.forbidden-product.result in
    let fits_factor : SFits w32 k = search rules in
    let fits_product : SFits w128 product = search rules in
    let product_is = rw (to_z-of_z c.ranges.number) at c.forbidden-product.ensures.product in
    let at = at_place ks ts i c.requires.law.same (omega (arith, c.requires.law.same, c.requires.place)) in
    let sums = has_sum ks ts i c.args.number k t product r c.requires.others at c.requires.inside product_is in
    each_excluded ks ts c.args.number k t product r sums (rw (to_z-of_z fits_factor, to_z-of_z fits_product) at c.in-Each.ensures)

pub returns-in_ok-change-in-One-clause-correct : goal.returns-in_ok-change-in-One-clause-correct
returns-in_ok-change-in-One-clause-correct c =
    let ks = c.args.sum.now.factors.now in
    let ts = c.args.sum.now.terms.now in
    let i = c.args.place in
    let k = slice_index_or ks i (pos 0) in
    let t = slice_index_or ts i (Num (pos 0)) in
    let r = c.args.store.now in
    let product = c.forbidden-product.result in
    let v = c.in-One.value in
    let fits_factor : SFits w32 k = search rules in
    let fits_product : SFits w128 product = search rules in
    let fits_value : SFits w32 v = search rules in
    let product_is = rw (to_z-of_z c.ranges.number) at c.forbidden-product.ensures.product in
    let at = at_place ks ts i c.requires.law.same (omega (arith, c.requires.law.same, c.requires.place)) in
    let sums = has_sum ks ts i c.args.number k t product r c.requires.others at c.requires.inside product_is in
    let one = rw (to_z-of_z fits_factor, to_z-of_z fits_product) at c.in-One.ensures in
    let change = rw (to_z-of_z fits_value) at c.in_ok-change-in-One.ensures.change in
    value_correct c.in_ok-change-in-One.change ks ts c.args.number k t product v r c.remove.new.store sums one.0 change c.in_ok-change-in-One.ensures.shrinks

pub returns-in_ok-change-in-One-clause-answer : goal.returns-in_ok-change-in-One-clause-answer
returns-in_ok-change-in-One-clause-answer c =
    let ks = c.args.sum.now.factors.now in
    let ts = c.args.sum.now.terms.now in
    let i = c.args.place in
    let k = slice_index_or ks i (pos 0) in
    let t = slice_index_or ts i (Num (pos 0)) in
    let r = c.args.store.now in
    let product = c.forbidden-product.result in
    let v = c.in-One.value in
    let fits_factor : SFits w32 k = search rules in
    let fits_product : SFits w128 product = search rules in
    let fits_value : SFits w32 v = search rules in
    let product_is = rw (to_z-of_z c.ranges.number) at c.forbidden-product.ensures.product in
    let at = at_place ks ts i c.requires.law.same (omega (arith, c.requires.law.same, c.requires.place)) in
    let sums = has_sum ks ts i c.args.number k t product r c.requires.others at c.requires.inside product_is in
    let one = rw (to_z-of_z fits_factor, to_z-of_z fits_product) at c.in-One.ensures in
    let change = rw (to_z-of_z fits_value) at c.in_ok-change-in-One.ensures.change in
    rw c.settled.ensures (value_settled c.in_ok-change-in-One.change ks ts c.args.number k t product v r c.remove.new.store (term_at ks ts i _ k t at c.requires.inside) sums one.0 one.1 change
    c.in_ok-change-in-One.ensures.shrinks)
