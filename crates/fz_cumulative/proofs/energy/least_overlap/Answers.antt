use Rattle.std.proofs.Common.{◌≡◌, refl, rules}
use Rattle.std.specs.Int.{int_min}
use Rattle.std.proofs.Math.Facts.{to_z-of_z}
use mir.Val.{SFits}
use mir.Syntax.{w32, w64}
use Rattle.fz_cumulative.specs.Energies.{overlap}
use Rattle.fz_cumulative.proofs.energy.least_overlap.Goals as goal

pub returns-clause-overlap : goal.returns-clause-overlap
returns-clause-overlap c =
    let window = c.args.window in
    let task = c.args.task in
    let earliest : SFits w32 task.earliest = search rules in
    let latest : SFits w32 task.latest = search rules in
    let duration : SFits w32 task.duration = search rules in
    let first : SFits w64 c.overlap-first.result = search rules in
    let last : SFits w64 c.overlap-last.result = search rules in
    let fits : SFits w64 c.lesser.result = search rules in
    let at_first : c.overlap-first.result ≡ overlap window.since window.until task.earliest task.duration = rw (to_z-of_z earliest, to_z-of_z duration) at c.overlap-first.ensures.overlap in
    let at_last : c.overlap-last.result ≡ overlap window.since window.until task.latest task.duration = rw (to_z-of_z latest, to_z-of_z duration) at c.overlap-last.ensures.overlap in
    let is : c.lesser.result ≡ int_min c.overlap-first.result c.overlap-last.result = rw (to_z-of_z first, to_z-of_z last) at c.lesser.ensures.lesser in
    rw (to_z-of_z fits, is, at_first, at_last) refl
