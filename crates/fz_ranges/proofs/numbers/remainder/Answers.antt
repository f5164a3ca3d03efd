use Rattle.std.proofs.Common.{◌≡◌, rules, ◌∙◌}
use Rattle.std.proofs.Math.Facts.{to_z-of_z}
use Rattle.std.proofs.lemmas.Int.{rem_is}
use mir.Val.{SFits}
use mir.Syntax.{w64}
use Rattle.fz_ranges.proofs.Parted.{remainder_is}
use Rattle.fz_ranges.proofs.numbers.remainder.Goals as goal

pub returns : goal.returns
returns c =
    let x = c.args.x in
    let y = c.args.y in
    let from_x : c.from-2.result ≡ x = rw (to_z-of_z c.ranges.x) at c.from-2.ensures in
    let from_y : c.from-3.result ≡ y = rw (to_z-of_z c.ranges.y) at c.from-3.ensures in
    let fits_from_x : SFits w64 c.from-2.result = search rules in
    let fits_from_y : SFits w64 c.from-3.result = search rules in
    let fits_x : SFits w64 x = rw from_x at fits_from_x in
    let fits_y : SFits w64 y = rw from_y at fits_from_y in
    rw (from_x, from_y) (rem_is w64 x y fits_x fits_y ∙ remainder_is x y)
