use Rattle.std.proofs.Common.{◌≡◌, ◌∙◌, arith, rules}
use Rattle.std.specs.Int.{int_max}
use Rattle.std.proofs.lemmas.Int.{ints, clamps}
use Rattle.std.proofs.Math.Facts.{to_z-of_z}
use mir.Val.{SFits}
use mir.Syntax.{w128}
use Rattle.fz_cumulative.proofs.finding.greater.Goals as goal

pub returns-clause-peak : goal.returns-clause-peak
returns-clause-peak c =
    let most : c.max.result ≡ int_max c.args.peak c.args.load = rw (to_z-of_z c.ranges.peak, to_z-of_z c.ranges.load) at c.max.ensures.value in
    omega (arith, ints, clamps)

pub returns-clause-load : goal.returns-clause-load
returns-clause-load c =
    let most : c.max.result ≡ int_max c.args.peak c.args.load = rw (to_z-of_z c.ranges.peak, to_z-of_z c.ranges.load) at c.max.ensures.value in
    omega (arith, ints, clamps)

pub returns-clause-greater : goal.returns-clause-greater
returns-clause-greater c =
    let fits : SFits w128 c.max.result = search rules in
    let most : c.max.result ≡ int_max c.args.peak c.args.load = rw (to_z-of_z c.ranges.peak, to_z-of_z c.ranges.load) at c.max.ensures.value in
    to_z-of_z fits ∙ most
