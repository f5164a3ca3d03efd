use Rattle.std.proofs.Common.{rules, ◌≡◌, ◌+ℤ◌, slice_index_or, pos, to_z, arith}
use Rattle.std.proofs.Math.Facts.{to_z-of_z}
use mir.Val.{SFits}
use mir.Syntax.{w32, w64, w128}
use Rattle.fz_spec.specs.declared.term.Term.TheVariants.{Num}
use Rattle.fz_refutes.specs.Boxes.{set_of}
use Rattle.fz_refutes.specs.Refuted.{least_product, greatest_product, least_sum, greatest_sum}
use Rattle.fz_cert.proofs.Summing.{at_place, least_more, greatest_more, summed_more, summed, least_end, greatest_end}
use Rattle.fz_cert.proofs.ends.sum_ends.Goals as goal

pub loop-i-preserved : goal.loop-i-preserved
loop-i-preserved c =
    let box = c.args.area.now in
    let ks = c.args.factors.now in
    let ts = c.args.terms.now in
    let i = c.loop-i.i in
    let k = slice_index_or ks i (pos 0) in
    let t = slice_index_or ts i (Num (pos 0)) in
    let at = at_place ks ts i (omega arith) (omega arith) in
    let fits_least : SFits w128 c.add-least.result = search rules in
    let fits_greatest : SFits w128 c.add-greatest.result = search rules in
    let fits_factor : SFits w32 k = search rules in
    let fits_low : SFits w64 c.product_ends-low.result.0 = search rules in
    let fits_high : SFits w64 c.product_ends-low.result.1 = search rules in
    let low : c.product_ends-low.result.0 ≡ least_product k (set_of box t) = rw (to_z-of_z fits_factor) at c.product_ends-low.ensures.least in
    let high : c.product_ends-low.result.1 ≡ greatest_product k (set_of box t) = rw (to_z-of_z fits_factor) at c.product_ends-low.ensures.greatest in
    let least : c.add-least.result ≡ to_z w128 c.loop-i.least-bits +ℤ least_product k (set_of box t) = rw (to_z-of_z fits_low, low) at c.add-least.ensures.sum in
    let greatest : c.add-greatest.result ≡ to_z w128 c.loop-i.greatest-bits +ℤ greatest_product k (set_of box t) = rw (to_z-of_z fits_high, high) at c.add-greatest.ensures.sum in
    rw (to_z-of_z fits_least, to_z-of_z fits_greatest) (record {
      least = summed_more _ _ (least_sum box ks ts) _ _ c.add-least.result i c.loop-i.invariant.least (least_more box ks ts i k t at) least c.add-least.ensures.near;
      greatest = summed_more _ _ (greatest_sum box ks ts) _ _ c.add-greatest.result i c.loop-i.invariant.greatest (greatest_more box ks ts i k t at) greatest c.add-greatest.ensures.near;
    })

pub returns-clause-least : goal.returns-clause-least
returns-clause-least c = summed _ _ _ _ c.loop-i.invariant.least (least_end c.args.area.now c.args.factors.now c.args.terms.now c.loop-i.i (omega arith))

pub returns-clause-greatest : goal.returns-clause-greatest
returns-clause-greatest c = summed _ _ _ _ c.loop-i.invariant.greatest (greatest_end c.args.area.now c.args.factors.now c.args.terms.now c.loop-i.i (omega arith))
