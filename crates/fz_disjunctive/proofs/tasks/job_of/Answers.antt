use Rattle.std.proofs.Common.{rules, refl, SFits, w64}
use Rattle.std.proofs.Math.Facts.{to_z-of_z}
use mir.Syntax.{w32}
use Rattle.fz_disjunctive.proofs.tasks.job_of.Goals as goal

pub returns-in-Backward : goal.returns-in-Backward
returns-in-Backward c =
    let earliest_fits : SFits w64 c.mirrored.result = search rules in
    let latest_fits : SFits w64 c.mirrored-in-Backward.result = search rules in
    let late_fits : SFits w32 c.args.task.latest = search rules in
    let early_fits : SFits w32 c.args.task.earliest = search rules in
    let duration_fits : SFits w32 c.args.task.duration = search rules in
    let earliest = rw (to_z-of_z late_fits, to_z-of_z duration_fits) at c.mirrored.ensures in
    let latest = rw (to_z-of_z early_fits, to_z-of_z duration_fits) at c.mirrored-in-Backward.ensures in
    rw (c.in-Backward.is, to_z-of_z earliest_fits, to_z-of_z latest_fits, to_z-of_z duration_fits, earliest, latest) refl
