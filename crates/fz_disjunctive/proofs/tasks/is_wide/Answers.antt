use Rattle.std.proofs.Common.{rules, arith, pos, SFits, w64}
use Rattle.std.proofs.lemmas.Int.{ints}
use Rattle.std.proofs.Math.Facts.{to_z-of_z}
use mir.Syntax.{w32}
use Rattle.fz_disjunctive.proofs.Ordering.{lt_of}
use Rattle.fz_disjunctive.proofs.tasks.is_wide.Goals as goal

pub returns-then-task-gt0 : goal.returns-then-task-gt0
returns-then-task-gt0 c = λ over.
    let high_fits : SFits w64 c.from.result = search rules in
    let double_fits : SFits w64 c.double.result = search rules in
    let usage_fits : SFits w32 c.args.task.usage = search rules in
    let duration_fits : SFits w32 c.args.task.duration = search rules in
    let above = rw (to_z-of_z high_fits, to_z-of_z double_fits) at over in
    let more = lt_of c.from.result c.double.result above in
    let bound = rw (to_z-of_z c.ranges.high) at c.from.ensures in
    let sum = rw (to_z-of_z usage_fits) at c.double.ensures in
    let lasts = rw (to_z-of_z duration_fits) at c.if-task-gt0.true in
    record { lasts = lt_of (pos 0) c.args.task.duration lasts; wide = omega (arith, ints, more, bound, sum) }
