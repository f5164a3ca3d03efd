use Rattle.std.proofs.Common.{◌≡◌, arith, rules}
use Rattle.std.specs.Prelude.{ℤ, pos, ◌+ℤ◌, ◌≤ℤ◌}
use Rattle.std.specs.Int.{int_min}
use Rattle.std.proofs.lemmas.Int.{ints, clamps}
use Rattle.std.proofs.Math.Facts.{to_z-of_z}
use mir.Val.{SFits}
use mir.Syntax.{w32}
use Rattle.fz_prop.proofs.indices.index_end.Goals as goal

below_min : (k a b m : ℤ) → k ≤ℤ a → k ≤ℤ b → m ≡ int_min a b → k ≤ℤ m
below_min k a b m to_a to_b is = omega (arith, ints, clamps, to_a, to_b, is)

pub returns-clause-above : goal.returns-clause-above
returns-clause-above c = λ k to is.
    let fits_left : SFits w32 c.greatest_of.result = search rules in
    let fits_last : SFits w32 c.last_index.result = search rules in
    let fits_min : SFits w32 c.min-last.result = search rules in
    let fits_above : SFits w32 c.above.result = search rules in
    let left = c.greatest_of.ensures.upper_bound k is in
    let limits = c.greatest_of.ensures.limits c.requires.fits in
    let last = c.last_index.ensures.above k (omega (arith, ints, left, limits.1)) to in
    let min : c.min-last.result ≡ int_min c.greatest_of.result c.last_index.result = rw (to_z-of_z fits_left, to_z-of_z fits_last) at c.min-last.ensures.value in
    let above : c.above.result ≡ c.min-last.result +ℤ pos 1 = rw (to_z-of_z fits_min) at c.above.ensures in
    let below = below_min k c.greatest_of.result c.last_index.result c.min-last.result left last min in
    rw (to_z-of_z fits_above) (omega (arith, ints, above, below))

pub returns-clause-end : goal.returns-clause-end
returns-clause-end c =
    let fits_left : SFits w32 c.greatest_of.result = search rules in
    let fits_last : SFits w32 c.last_index.result = search rules in
    let fits_min : SFits w32 c.min-last.result = search rules in
    let fits_above : SFits w32 c.above.result = search rules in
    let greatest = c.greatest_of.ensures.greatest in
    let last = c.last_index.ensures.last in
    let min : c.min-last.result ≡ int_min c.greatest_of.result c.last_index.result = rw (to_z-of_z fits_left, to_z-of_z fits_last) at c.min-last.ensures.value in
    let above : c.above.result ≡ c.min-last.result +ℤ pos 1 = rw (to_z-of_z fits_min) at c.above.ensures in
    rw (to_z-of_z fits_above) (omega (arith, ints, clamps, greatest, last, min, above, fits_left))
