use Rattle.std.proofs.Common.{rules, ◌≡◌, ◌+◌, ◌*◌, ◌^◌, ◌≤◌, ◌+ℤ◌, ◌≤ℤ◌, drop, slice_index_or, pos, to_z, arith}
use Rattle.std.specs.Prelude.{unsigned_abs}
use Rattle.std.proofs.lemmas.Int.{ints}
use Rattle.std.proofs.lemmas.List.Sums.{sum_by-drop_more}
use Rattle.std.proofs.Math.Facts.{to_z-of_z}
use mir.Val.{SFits}
use mir.Syntax.{w32, w64}
use Rattle.fz_spec.specs.declared.term.Term.TheVariants.{Num}
use Rattle.fz_strength.specs.Domains.{term_set}
use Rattle.fz_strength.specs.Sums.{least_product, greatest_product, least_sum, greatest_sum}
use Rattle.fz_linear.proofs.Summing.{at_place, least_more, greatest_more, near_more}
use Rattle.fz_linear.proofs.Narrowing.{narrowed_more}
use Rattle.fz_linear.proofs.narrow.narrow_ends.Goals as goal

pub loop-i-preserved : goal.loop-i-preserved
loop-i-preserved c =
    let ds = c.args.store.now.doms in
    let ks = c.args.factors.now in
    let ts = c.args.terms.now in
    let i = c.loop-i.i in
    let k = slice_index_or ks i (pos 0) in
    let t = slice_index_or ts i (Num (pos 0)) in
    let at = at_place ks ts i c.requires.same c.loop-i-test.true in
    let heavier = sum_by-drop_more unsigned_abs ks i (pos 0) c.loop-i-test.true in
    let fits_least : SFits w64 c.add_narrow-least.result = search rules in
    let fits_greatest : SFits w64 c.add_narrow-greatest.result = search rules in
    let fits_factor : SFits w32 k = search rules in
    let fits_low : SFits w64 c.product_ends-low.result.0 = search rules in
    let fits_high : SFits w64 c.product_ends-low.result.1 = search rules in
    let low : c.product_ends-low.result.0 ≡ least_product k (term_set ds t) = rw (to_z-of_z fits_factor) at c.product_ends-low.ensures.least in
    let high : c.product_ends-low.result.1 ≡ greatest_product k (term_set ds t) = rw (to_z-of_z fits_factor) at c.product_ends-low.ensures.greatest in
    let near_low : unsigned_abs c.product_ends-low.result.0 ≤ unsigned_abs k * 2 ^ 31 = rw (to_z-of_z fits_factor) at c.product_ends-low.ensures.near in
    let near_high : unsigned_abs c.product_ends-low.result.1 ≤ unsigned_abs k * 2 ^ 31 = rw (to_z-of_z fits_factor) at c.product_ends-low.ensures.near_greatest in
    let least : c.add_narrow-least.result ≡ to_z w64 c.loop-i.least-bits +ℤ c.product_ends-low.result.0 = rw (to_z-of_z fits_low) at c.add_narrow-least.ensures.sum in
    let greatest : c.add_narrow-greatest.result ≡ to_z w64 c.loop-i.greatest-bits +ℤ c.product_ends-low.result.1 = rw (to_z-of_z fits_high) at c.add_narrow-greatest.ensures.sum in
    let near_least = rw (to_z-of_z fits_low) at c.add_narrow-least.ensures.near in
    let near_greatest = rw (to_z-of_z fits_high) at c.add_narrow-greatest.ensures.near in
    let rest_least : least_sum ds (drop i ks) (drop i ts) ≡ (c.product_ends-low.result.0 +ℤ least_sum ds (drop (i + 1) ks) (drop (i + 1) ts)) = rw low (least_more ds ks ts i k t at) in
    let rest_greatest : greatest_sum ds (drop i ks) (drop i ts) ≡ (c.product_ends-low.result.1 +ℤ greatest_sum ds (drop (i + 1) ks) (drop (i + 1) ts)) = rw high (greatest_more ds ks ts i k t at) in
    let span : c.product_ends-low.result.1 ≤ℤ (c.product_ends-low.result.0 +ℤ pos c.width.result) = rw (to_z-of_z fits_low, to_z-of_z fits_high) at c.width.ensures in
    rw (to_z-of_z fits_least, to_z-of_z fits_greatest) (record {
      least = narrowed_more _ _ (least_sum ds ks ts) _ _ c.add_narrow-least.result _ _ _ c.loop-i.invariant.least rest_least least heavier near_low near_least;
      near = λ slack wide rest. c.loop-i.invariant.near slack (omega (arith, ints, wide, c.wider-widest.ensures.first))
          (near_more ds ks ts i k t c.product_ends-low.result.0 c.product_ends-low.result.1 slack c.width.result c.wider-widest.result at low high span c.wider-widest.ensures.second wide rest);
      greatest = narrowed_more _ _ (greatest_sum ds ks ts) _ _ c.add_narrow-greatest.result _ _ _ c.loop-i.invariant.greatest rest_greatest greatest heavier near_high near_greatest;
    })
