use Rattle.std.proofs.Common.{pos, sym, rules, SFits, w64, get_or}
use Rattle.std.proofs.Math.Facts.{to_z-of_z}
use mir.Syntax.{w128, w32}
use Rattle.fz_disjunctive.specs.declared.job.Job.{Job}
use Rattle.fz_disjunctive.proofs.Choosing.{sofar_more}
use Rattle.fz_disjunctive.proofs.order.soonest_end.Goals as goal

pub loop-index-preserved : goal.loop-index-preserved
loop-index-preserved c =
    let d : Job = record { place = 0; earliest = pos 0; latest = pos 0; duration = pos 0 } in
    let job = get_or c.args.jobs.now c.loop-index.index d in
    let earliest_fits : SFits w64 job.earliest = search rules in
    let duration_fits : SFits w32 job.duration = search rules in
    let since_fits : SFits w64 c.min-since.result = search rules in
    let total_fits : SFits w128 c.add-total.result = search rules in
    let sum_fits : SFits w128 c.plus.result = search rules in
    let end_fits : SFits w128 c.max-end.result = search rules in
    let more =
    sofar_more c.args.jobs.now c.args.choice _ c.loop-index.index _ _ _ d c.loop-index.invariant.sofar c.loop-index-test.true (sym c.if-not-takes.ensures) in
    let since = rw (to_z-of_z earliest_fits) at c.min-since.ensures.value in
    let total = rw (to_z-of_z duration_fits) at c.add-total.ensures.sum in
    let sum = rw (to_z-of_z since_fits, to_z-of_z total_fits) at c.plus.ensures in
    let end = rw (to_z-of_z sum_fits) at c.max-end.ensures.value in
    record {
      sofar = rw (to_z-of_z since_fits, to_z-of_z total_fits, to_z-of_z end_fits) (rw (end, sum, since, total) more);
      near = rw (to_z-of_z total_fits) c.add-total.ensures.near;
    }

pub returns : goal.returns
returns c = rw (to_z-of_z c.ranges.floor) at c.loop-index.invariant.sofar.soonest
