use Rattle.std.proofs.Common.{◌≡◌, rules}
use Rattle.std.specs.Prelude.{◌*ℤ◌}
use Rattle.std.proofs.Math.Facts.{to_z-of_z}
use mir.Val.{SFits}
use mir.Syntax.{w32, w64}
use Rattle.fz_strength.specs.Operations.{low_of, high_of}
use Rattle.fz_arith.proofs.ends.product_bounds.Goals as goal

pub returns : goal.returns
returns c =
    let ds = c.args.store.now.doms in
    let low = c.least_of-low.result in
    let high = c.greatest_of-high.result in
    let first = c.least_of-first.result in
    let last = c.greatest_of-last.result in
    let fits_low : SFits w32 low = search rules in
    let fits_high : SFits w32 high = search rules in
    let fits_first : SFits w32 first = search rules in
    let fits_last : SFits w32 last = search rules in
    let low_is : low ≡ low_of ds c.args.y = c.least_of-low.ensures.least in
    let high_is : high ≡ high_of ds c.args.y = c.greatest_of-high.ensures.greatest in
    let first_is : first ≡ low_of ds c.args.x = c.least_of-first.ensures.least in
    let last_is : last ≡ high_of ds c.args.x = c.greatest_of-last.ensures.greatest in
    let p : c.product.result ≡ first *ℤ low = rw (to_z-of_z fits_first, to_z-of_z fits_low) at c.product.ensures in
    let q : c.product-2.result ≡ first *ℤ high = rw (to_z-of_z fits_first, to_z-of_z fits_high) at c.product-2.ensures in
    let r : c.product-3.result ≡ last *ℤ low = rw (to_z-of_z fits_last, to_z-of_z fits_low) at c.product-3.ensures in
    let s : c.product-4.result ≡ last *ℤ high = rw (to_z-of_z fits_last, to_z-of_z fits_high) at c.product-4.ensures in
    let fits_p : SFits w64 c.product.result = search rules in
    let fits_q : SFits w64 c.product-2.result = search rules in
    let fits_r : SFits w64 c.product-3.result = search rules in
    let fits_s : SFits w64 c.product-4.result = search rules in
    rw (to_z-of_z fits_p, to_z-of_z fits_q, to_z-of_z fits_r, to_z-of_z fits_s, p, q, r, s, low_is, high_is, first_is, last_is) at c.around.ensures
