use Rattle.std.proofs.Common.{◌≡◌, rules}
use Rattle.std.specs.Prelude.{◌*ℤ◌, ◌≤ℤ◌}
use Rattle.std.proofs.Math.Facts.{to_z-of_z}
use mir.Val.{SFits}
use mir.Syntax.{w32, w64}
use Rattle.fz_strength.specs.Operations.{low_of, high_of}
use Rattle.fz_arith.proofs.ProductEnds.{Fits, product_line}
use Rattle.fz_arith.proofs.products.fit.Goals as goal

pub returns : goal.returns
returns c = λ last.
    let ds = c.args.store.now.doms in
    let x = c.args.x in
    let y = c.args.y in
    let z = c.args.value in
    let low = c.least_of-low.result in
    let high = c.greatest_of-high.result in
    let other_low = c.least_of-other_low.result in
    let other_high = c.greatest_of-other_high.result in
    let fits_low : SFits w32 low = search rules in
    let fits_high : SFits w32 high = search rules in
    let fits_other_low : SFits w32 other_low = search rules in
    let fits_other_high : SFits w32 other_high = search rules in
    let fits_least : SFits w32 c.least_of-least.result = search rules in
    let fits_greatest : SFits w32 c.greatest_of-greatest.result = search rules in
    let p : c.product.result ≡ low *ℤ other_low = rw (to_z-of_z fits_low, to_z-of_z fits_other_low) at c.product.ensures in
    let q : c.product-2.result ≡ low *ℤ other_high = rw (to_z-of_z fits_low, to_z-of_z fits_other_high) at c.product-2.ensures in
    let r : c.product-3.result ≡ high *ℤ other_low = rw (to_z-of_z fits_high, to_z-of_z fits_other_low) at c.product-3.ensures in
    let s : c.product-4.result ≡ high *ℤ other_high = rw (to_z-of_z fits_high, to_z-of_z fits_other_high) at c.product-4.ensures in
    let order : low ≤ℤ high = c.least_of-low.ensures.lower_bound high c.greatest_of-high.ensures.member in
    let other_order : other_low ≤ℤ other_high = c.least_of-other_low.ensures.lower_bound other_high c.greatest_of-other_high.ensures.member in
    let fits_p : SFits w64 c.product.result = search rules in
    let fits_q : SFits w64 c.product-2.result = search rules in
    let fits_r : SFits w64 c.product-3.result = search rules in
    let fits_s : SFits w64 c.product-4.result = search rules in
    let fits_first : SFits w64 c.from.result = search rules in
    let fits_last : SFits w64 c.from-2.result = search rules in
    let first : c.from.result ≡ c.least_of-least.result = rw (to_z-of_z fits_least) at c.from.ensures in
    let last_is : c.from-2.result ≡ c.greatest_of-greatest.result = rw (to_z-of_z fits_greatest) at c.from-2.ensures in
    let low_is : low ≡ low_of ds x = c.least_of-low.ensures.least in
    let high_is : high ≡ high_of ds x = c.greatest_of-high.ensures.greatest in
    let other_low_is : other_low ≡ low_of ds y = c.least_of-other_low.ensures.least in
    let other_high_is : other_high ≡ high_of ds y = c.greatest_of-other_high.ensures.greatest in
    let least_is : c.least_of-least.result ≡ low_of ds z = c.least_of-least.ensures.least in
    let greatest_is : c.greatest_of-greatest.result ≡ high_of ds z = c.greatest_of-greatest.ensures.greatest in
    let hull = rw (to_z-of_z fits_p, to_z-of_z fits_q, to_z-of_z fits_r, to_z-of_z fits_s, to_z-of_z fits_p, to_z-of_z fits_q, to_z-of_z fits_r, to_z-of_z fits_s, p, q, r, s, low_is, high_is, other_low_is, other_high_is) at c.around-hull.ensures in
    let between = rw (to_z-of_z fits_least, to_z-of_z fits_greatest, least_is, greatest_is, hull) at (c.lie_between.ensures (search rules)) in
    let kept = rw (to_z-of_z fits_other_low, to_z-of_z fits_other_high, to_z-of_z fits_p, to_z-of_z fits_q, to_z-of_z fits_r, to_z-of_z fits_s, to_z-of_z fits_first, to_z-of_z fits_last, p, q, r, s, first, last_is, low_is, high_is, other_low_is, other_high_is, least_is, greatest_is) at (c.is_kept.ensures (search rules)) in
    let other_kept = rw (to_z-of_z fits_low, to_z-of_z fits_high, to_z-of_z fits_p, to_z-of_z fits_q, to_z-of_z fits_r, to_z-of_z fits_s, to_z-of_z fits_p, to_z-of_z fits_q, to_z-of_z fits_r, to_z-of_z fits_s, to_z-of_z fits_first, to_z-of_z fits_last, p, q, r, s, first, last_is, low_is, high_is, other_low_is, other_high_is, least_is, greatest_is) at (c.is_kept-2.ensures last) in
    let fits : Fits x y z ds = record {
      order = rw (low_is, high_is) at order;
      other_order = rw (other_low_is, other_high_is) at other_order;
      low = between.0;
      high = between.1;
      kept = kept;
      other_kept = other_kept;
    } in
    product_line x y z ds fits
