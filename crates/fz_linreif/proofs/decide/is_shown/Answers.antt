use Rattle.std.proofs.Common.{rules, ◌≡◌, ◌≤ℤ◌, ◌<ℤ◌, arith}
use Rattle.std.proofs.lemmas.Int.{ints}
use Rattle.std.proofs.Math.Facts.{to_z-of_z}
use mir.Val.{SFits}
use mir.Syntax.{w128}
use Rattle.fz_linreif.proofs.Deciding.{all_below, below_all}
use Rattle.fz_linreif.proofs.decide.is_shown.Goals as goal

pub returns-else-number-low : goal.returns-else-number-low
returns-else-number-low c =
    let fits_number : SFits w128 c.from-number.result = search rules in
    let number_is : c.from-number.result ≡ c.args.number = rw (to_z-of_z c.ranges.number) at c.from-number.ensures in
    let test = rw (to_z-of_z fits_number, to_z-of_z c.ranges.low, number_is) at c.if-number-low.false in
    let reached : c.args.low ≤ℤ c.args.number = grind (arith, ints, test) in
    rw (c.in-NotEqual.is, to_z-of_z c.ranges.high, to_z-of_z fits_number, number_is) (
      (λ h. let above : c.args.high <ℤ c.args.number = grind (arith, ints, h) in all_below c.args.low c.args.high c.args.number above),
      (λ all. let above = below_all c.args.low c.args.high c.args.number reached all in grind (arith, ints, above)),
    )
