use Rattle.std.proofs.Common.{arith, rules}
use Rattle.std.proofs.lemmas.Int.{ints}
use Rattle.std.proofs.Math.Facts.{to_z-of_z}
use mir.Val.{SFits}
use mir.Syntax.{w32}
use Rattle.fz_bits.specs.Windows.{IsBit}
use Rattle.fz_shift.proofs.Thirds.{made_ones}
use Rattle.fz_shift.proofs.Turning.{turned_small}
use Rattle.fz_shift.proofs.matching.seconds_of.Goals as goal

pub related-requires-clause-room : goal.related-requires-clause-room
related-requires-clause-room c = let high = c.requires.across_room.1 in omega (arith, ints, high)

pub related-requires-clause-takes : goal.related-requires-clause-takes
related-requires-clause-takes c =
    let fits : SFits w32 c.args.plane.number = search rules in
    rw c.turned.ensures (turned_small c.args.plane c.requires.small (omega (arith, ints, fits)))

pub returns : goal.returns
returns c =
    let across = c.args.across in
    let first = c.args.first in
    let base = c.args.base in
    let made = c.related.result in
    made_ones c.args.plane (λ u. IsBit across.base across.bits u) (λ w. IsBit first.base first.bits w) (λ v. IsBit base c.all.result.bits v) (λ u. IsBit across.base made.firsts.bits u) base made.seconds.bits
    (rw (to_z-of_z c.ranges.base) at c.all.ensures.numbers) (rw (c.turned.ensures, c.all.ensures.base, to_z-of_z c.ranges.base) at c.related.ensures.matching)
