use Rattle.std.proofs.Common.{◌≡◌, refl, rules}
use Rattle.std.specs.Prelude.{◌*ℤ◌}
use Rattle.std.proofs.Math.Facts.{to_z-of_z}
use mir.Val.{SFits}
use mir.Syntax.{w32, w64, w128}
use Rattle.fz_cumulative.proofs.energy.room_in.Goals as goal

pub returns : goal.returns
returns c =
    let high : SFits w32 c.args.high = search rules in
    let wide : SFits w64 c.width.result = search rules in
    let fits : SFits w128 c.use_of.result = search rules in
    let is : c.use_of.result ≡ (c.args.high *ℤ c.width.result) = rw (to_z-of_z high, to_z-of_z wide) at c.use_of.ensures.product in
    rw (to_z-of_z fits, is, c.width.ensures.width) refl
