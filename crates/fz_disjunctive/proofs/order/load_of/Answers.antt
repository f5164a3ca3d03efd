use Rattle.std.proofs.Common.{pos, sym, rules, SFits, get_or}
use Rattle.std.proofs.Math.Facts.{to_z-of_z}
use mir.Syntax.{w128, w32}
use Rattle.fz_disjunctive.specs.declared.job.Job.{Job}
use Rattle.fz_disjunctive.proofs.Loads.{load_more}
use Rattle.fz_disjunctive.proofs.order.load_of.Goals as goal

pub loop-index-preserved : goal.loop-index-preserved
loop-index-preserved c =
    let d : Job = record { place = 0; earliest = pos 0; latest = pos 0; duration = pos 0 } in
    let job = get_or c.args.jobs.now c.loop-index.index d in
    let old_total_fits : SFits w128 c.loop-index.load.total = search rules in
    let old_first_fits : SFits w128 c.loop-index.load.first_end = search rules in
    let duration_fits : SFits w32 job.duration = search rules in
    let total_fits : SFits w128 c.add.result = search rules in
    let end_fits : SFits w128 c.earliest_end.result = search rules in
    let first_fits : SFits w128 c.min.result = search rules in
    let more = load_more c.args.choice c.args.jobs.now c.loop-index.index _ _ d c.loop-index-test.true (sym c.if-not-takes.ensures) c.loop-index.invariant.load in
    let total = rw (to_z-of_z old_total_fits, to_z-of_z duration_fits) at c.add.ensures.sum in
    let first = rw (to_z-of_z old_first_fits, to_z-of_z end_fits, c.earliest_end.ensures) at c.min.ensures.value in
    record {
      load = rw (to_z-of_z total_fits, to_z-of_z first_fits) (rw (total, first) more);
      near = rw (to_z-of_z total_fits) c.add.ensures.near;
    }
