use Rattle.std.proofs.Common.{◌≡◌, ◌∙◌, rules, ap, arith, pos}
use Rattle.std.specs.Prelude.{neg_ℤ, ◌≤ℤ◌}
use Rattle.std.proofs.lemmas.Int.{ints}
use Rattle.std.proofs.Math.Facts.{to_z-of_z}
use mir.Val.{SFits}
use mir.Syntax.{w32, w64}
use Rattle.fz_dom.specs.Shape.{least, greatest}
use Rattle.fz_arith.proofs.Places.{least_above, least_below_zero}
use Rattle.fz_arith.proofs.ends.least_size_in.Goals as goal

pub returns-then-low-ge0 : goal.returns-then-low-ge0
returns-then-low-ge0 c =
    let d = c.args.set.now in
    let fits : SFits w64 c.from.result = search rules in
    let fits_low : SFits w32 c.min-low.result = search rules in
    let from_low : c.from.result ≡ c.min-low.result = rw (to_z-of_z fits_low) at c.from.ensures in
    let low : c.min-low.result ≡ least d = c.min-low.ensures.first in
    let above : pos 0 ≤ℤ least d = omega (arith, ints, low, c.if-low-ge0.true) in
    rw (to_z-of_z fits) (from_low ∙ low ∙ least_above d c.min-low.ensures.domain c.requires above)

pub returns-then-high-le0 : goal.returns-then-high-le0
returns-then-high-le0 c =
    let d = c.args.set.now in
    let fits : SFits w64 c.negative.result = search rules in
    let fits_high : SFits w32 c.max-high.result = search rules in
    let negative : c.negative.result ≡ neg_ℤ c.max-high.result = rw (to_z-of_z fits_high) at c.negative.ensures in
    let high : c.max-high.result ≡ greatest d = c.max-high.ensures.last in
    let below : greatest d ≤ℤ pos 0 = omega (arith, ints, high, c.if-high-le0.true) in
    rw (to_z-of_z fits) (negative ∙ ap neg_ℤ high ∙ least_below_zero d c.min-low.ensures.domain c.requires below)
