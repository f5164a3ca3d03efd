use Rattle.std.proofs.Common.{◌≡◌, pos, rules, arith, SFits, get_or}
use Rattle.std.specs.Prelude.{ℤ, int_le, false, ◌+ℤ◌, ◌<ℤ◌}
use Rattle.std.proofs.lemmas.Int.{ints}
use Rattle.std.proofs.lemmas.Option.{get_or_from_slice_get}
use Rattle.std.proofs.Math.Facts.{to_z-of_z}
use mir.Syntax.{w128}
use Rattle.fz_disjunctive.specs.declared.job.Job.{Job}
use Rattle.fz_disjunctive.proofs.Ordering.{behind_ending, lt_of}
use Rattle.fz_disjunctive.proofs.order.is_behind.Goals as goal

later : (time end x : ℤ) → int_le end time ≡ false → end ≡ x → time <ℤ x
later time end x late is = grind (arith, ints)

pub returns : goal.returns
returns c = λ over job at.
    let d : Job = record { place = 0; earliest = pos 0; latest = pos 0; duration = pos 0 } in
    let same : get_or c.args.jobs.now c.args.index d ≡ job = get_or_from_slice_get c.args.jobs.now c.args.index job d at in
    let latest_fits : SFits w128 c.latest_end.result = search rules in
    let end_fits : SFits w128 c.soonest_end.result = search rules in
    let late = rw (to_z-of_z latest_fits, to_z-of_z c.ranges.time) at c.if-latest_end-time.false in
    let latest = rw same at c.latest_end.ensures in
    let soonest = rw (to_z-of_z c.ranges.time, same) at c.soonest_end.ensures in
    let above = rw (to_z-of_z end_fits, to_z-of_z c.ranges.time) at over in
    behind_ending c.args.jobs.now c.args.index job c.args.time c.soonest_end.result at (later c.args.time c.latest_end.result (job.latest +ℤ job.duration) late latest) soonest (lt_of c.args.time c.soonest_end.result above)
