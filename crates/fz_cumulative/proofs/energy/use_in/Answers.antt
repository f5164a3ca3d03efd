use Rattle.std.proofs.Common.{◌≡◌, refl, rules}
use Rattle.std.specs.Prelude.{◌*ℤ◌}
use Rattle.std.proofs.Math.Facts.{to_z-of_z}
use mir.Val.{SFits}
use mir.Syntax.{w32, w64, w128}
use Rattle.fz_cumulative.proofs.energy.use_in.Goals as goal

pub returns-clause-product : goal.returns-clause-product
returns-clause-product c =
    let usage : SFits w32 c.args.task.usage = search rules in
    let time : SFits w64 c.least_overlap.result = search rules in
    let fits : SFits w128 c.use_of.result = search rules in
    let is : c.use_of.result ≡ (c.args.task.usage *ℤ c.least_overlap.result) = rw (to_z-of_z usage, to_z-of_z time) at c.use_of.ensures.product in
    rw (to_z-of_z fits, is, c.least_overlap.ensures.overlap) refl
