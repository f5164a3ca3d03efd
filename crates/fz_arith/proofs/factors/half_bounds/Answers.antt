use Rattle.std.proofs.Common.{◌≡◌, pos, arith, rules}
use Rattle.std.specs.Prelude.{neg_ℤ, ◌+ℤ◌, ◌-ℤ◌}
use Rattle.std.proofs.lemmas.Int.{ints}
use Rattle.std.proofs.Math.Facts.{to_z-of_z}
use mir.Val.{SFits}
use mir.Syntax.{w32, w64}
use Rattle.fz_arith.proofs.factors.half_bounds.Goals as goal

pub returns-clause-between : goal.returns-clause-between
returns-clause-between c = λ u in_z.
    let low = c.least_of-low.result in
    let high = c.greatest_of-high.result in
    let fits_low : SFits w32 low = search rules in
    let fits_high : SFits w32 high = search rules in
    let fits_from : SFits w64 c.from.result = search rules in
    let fits_to : SFits w64 c.from-2.result = search rules in
    let low_is : c.from.result ≡ low = rw (to_z-of_z fits_low) at c.from.ensures in
    let high_is : c.from-2.result ≡ high = rw (to_z-of_z fits_high) at c.from-2.ensures in
    let fits_minus : SFits w64 (pos 0 -ℤ c.from.result) = search rules in
    let fits_half : SFits w64 c.half.result = search rules in
    let fits_last : SFits w64 c.half-2.result = search rules in
    let fits_less : SFits w64 (pos 0 -ℤ c.half.result) = search rules in
    let from = c.least_of-low.ensures.lower_bound (u +ℤ u) in_z in
    let to = c.greatest_of-high.ensures.upper_bound (u +ℤ u) in_z in
    let first = rw (to_z-of_z fits_from, to_z-of_z fits_minus) at c.half.ensures.half in
    let last = rw (to_z-of_z fits_to) at c.half-2.ensures.half in
    let below = first (neg_ℤ u) (omega (arith, ints, from, low_is)) in
    let above = last u (omega (arith, ints, to, high_is)) in
    rw (to_z-of_z fits_half, to_z-of_z fits_less, to_z-of_z fits_last) (omega (arith, ints, below), above)
