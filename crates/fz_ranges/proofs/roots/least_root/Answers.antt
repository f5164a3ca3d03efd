use Rattle.std.proofs.Common.{◌≡◌, ℕ, ◌+◌, ◌*◌, pos, ◌+ℤ◌, ◌-ℤ◌, ◌*ℤ◌, arith, rules, refl}
use Rattle.std.proofs.lemmas.Int.{ints}
use Rattle.std.proofs.Math.IntN.{pos-*ℤ-pos}
use Rattle.std.proofs.Math.Facts.{to_z-of_z}
use mir.Val.{SFits}
use mir.Syntax.{w32, w64}
use Rattle.fz_ranges.specs.Roots.{IsRoot}
use Rattle.fz_ranges.proofs.Squares.{root_least}
use Rattle.fz_ranges.proofs.roots.least_root.Goals as goal

pub root-requires : goal.root-requires
root-requires c = tt

pub from-requires : goal.from-requires
from-requires c = tt

pub returns-clause-least : goal.returns-clause-least
returns-clause-least c = λ u to.
    let n = c.args.number in
    let fits_less : SFits w32 (n -ℤ pos 1) = search rules in
    let is : IsRoot (n -ℤ pos 1) c.root.result = rw (to_z-of_z c.ranges.number, to_z-of_z fits_less) at c.root.ensures in
    let some = rw (to_z-of_z c.ranges.number) at c.if-number-le0.false in
    let below = root_least (n -ℤ pos 1) c.root.result u is (omega (arith, ints, to)) (omega (arith, ints, some)) in
    let from = c.from.ensures in
    let fits_from : SFits w64 c.from.result = search rules in
    let fits_more : SFits w64 (c.from.result +ℤ pos 1) = search rules in
    rw (to_z-of_z fits_from, to_z-of_z fits_more) (omega (arith, ints, below, from))

pub returns-clause-reached : goal.returns-clause-reached
returns-clause-reached c =
    let n = c.args.number in
    let root = c.root.result in
    let fits_less : SFits w32 (n -ℤ pos 1) = search rules in
    let is : IsRoot (n -ℤ pos 1) root = rw (to_z-of_z c.ranges.number, to_z-of_z fits_less) at c.root.ensures in
    let below = is.1 in
    let from = c.from.ensures in
    let fits_from : SFits w64 c.from.result = search rules in
    let fits_more : SFits w64 (c.from.result +ℤ pos 1) = search rules in
    let more : c.from.result +ℤ pos 1 ≡ pos (root + 1) = omega (arith, ints, from) in
    rw (to_z-of_z fits_from, to_z-of_z fits_more, more, pos-*ℤ-pos (root + 1) (root + 1)) (omega (arith, ints, below))
