use Rattle.std.proofs.Common.{◌≡◌, rules, refl}
use Rattle.std.specs.Prelude.{pos, ◌-ℤ◌, int_div}
use Rattle.std.specs.Int.{CanDivide}
use Rattle.std.proofs.Math.Facts.{to_z-of_z}
use mir.Val.{SFits}
use mir.Syntax.{w32, w64}
use Rattle.fz_ranges.proofs.Quotients.{quotient_overflows}
use Rattle.fz_ranges.proofs.numbers.quotient.Goals as goal

pub checked_div-requires : goal.checked_div-requires
checked_div-requires c = tt

pub from-requires : goal.from-requires
from-requires c = tt

pub from-requires-in-None : goal.from-requires-in-None
from-requires-in-None c = tt

pub returns-in-Some : goal.returns-in-Some
returns-in-Some c =
    let is : c.in-Some.quotient ≡ int_div c.args.x c.args.y = rw (to_z-of_z c.ranges.x, to_z-of_z c.ranges.y) at c.in-Some.ensures.1 in
    let fits : SFits w32 c.in-Some.quotient = search rules in
    let fits_from : SFits w64 c.from.result = search rules in
    let from : c.from.result ≡ c.in-Some.quotient = rw (to_z-of_z fits) at c.from.ensures in
    rw (to_z-of_z fits_from, from, is) refl

pub returns-in-None : goal.returns-in-None
returns-in-None c =
    let x = c.args.x in
    let y = c.args.y in
    let none : CanDivide w32 x y → ⊥ = rw (to_z-of_z c.ranges.x, to_z-of_z c.ranges.y) at c.in-None.ensures in
    let from : c.from-in-None.result ≡ x = rw (to_z-of_z c.ranges.x) at c.from-in-None.ensures in
    let fits_from : SFits w64 c.from-in-None.result = search rules in
    let fits_less : SFits w64 (pos 0 -ℤ c.from-in-None.result) = search rules in
    let e = quotient_overflows x y c.ranges.x c.ranges.y c.requires none in
    rw (to_z-of_z fits_from, to_z-of_z fits_less, from) e
