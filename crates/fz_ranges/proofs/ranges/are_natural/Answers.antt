use Rattle.std.proofs.Common.{arith, rules}
use Rattle.std.proofs.lemmas.Int.{ints}
use Rattle.std.proofs.Math.Facts.{to_z-of_z}
use mir.Val.{SFits}
use mir.Syntax.{w64}
use Rattle.fz_ranges.proofs.ranges.are_natural.Goals as goal

pub returns-then-ranges-ge0 : goal.returns-then-ranges-ge0
returns-then-ranges-ge0 c = λ is u w v are.
    let fits_first : SFits w64 c.args.ranges.first.low = search rules in
    let fits_second : SFits w64 c.args.ranges.second.low = search rules in
    let first = rw (to_z-of_z fits_first) at c.if-ranges-ge0.true in
    let second = rw (to_z-of_z fits_second) at is in
    let in_first = are.0 in
    let in_second = are.1 in
    (omega (arith, ints, first, in_first), omega (arith, ints, second, in_second))

pub returns-else-ranges-ge0 : goal.returns-else-ranges-ge0
returns-else-ranges-ge0 c = λ is u w v are. absurd (cc (is, c.if-ranges-ge0.false))
