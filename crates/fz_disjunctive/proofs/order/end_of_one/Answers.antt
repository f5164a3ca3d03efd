use Rattle.std.proofs.Common.{pos, rules, arith, SFits, w64, get_or}
use Rattle.std.proofs.lemmas.Int.{ints}
use Rattle.std.proofs.lemmas.Option.{get_or_from_slice_get}
use Rattle.std.proofs.Math.Facts.{to_z-of_z}
use mir.Syntax.{w128, w32}
use Rattle.fz_disjunctive.specs.declared.job.Job.{Job}
use Rattle.fz_disjunctive.proofs.Ordering.{lt_of}
use Rattle.fz_disjunctive.proofs.Loads.{waits_for_one}
use Rattle.fz_disjunctive.proofs.order.end_of_one.Goals as goal

pub returns-then-plus-time : goal.returns-then-plus-time
returns-then-plus-time c = λ job at.
    let d : Job = record { place = 0; earliest = pos 0; latest = pos 0; duration = pos 0 } in
    let same = get_or_from_slice_get c.args.jobs.now c.args.index job d at in
    let duration_fits : SFits w32 (get_or c.args.jobs.now c.args.index d).duration = search rules in
    let earliest_fits : SFits w64 (get_or c.args.jobs.now c.args.index d).earliest = search rules in
    let load_fits : SFits w128 c.load_of-load.result.total = search rules in
    let total_fits : SFits w128 c.add-total.result = search rules in
    let sum_fits : SFits w128 c.plus.result = search rules in
    let first_fits : SFits w128 c.load_of-load.result.first_end = search rules in
    let load = rw (to_z-of_z c.ranges.time, same) at c.load_of-load.ensures.load in
    let sum = rw (to_z-of_z load_fits, to_z-of_z duration_fits, same) at c.add-total.ensures.sum in
    let plus = rw (to_z-of_z earliest_fits, to_z-of_z total_fits, same) at c.plus.ensures in
    let over = lt_of c.args.time c.plus.result (rw (to_z-of_z c.ranges.time, to_z-of_z sum_fits) at c.if-plus-time.true) in
    let some = lt_of (pos 0) c.load_of-load.result.total (rw (to_z-of_z load_fits) at c.if-load-gt0.true) in
    rw (to_z-of_z first_fits)
    (waits_for_one c.args.jobs.now c.args.index job c.args.time c.load_of-load.result.total c.load_of-load.result.first_end at load some (omega (arith, ints, sum, plus, over)))
