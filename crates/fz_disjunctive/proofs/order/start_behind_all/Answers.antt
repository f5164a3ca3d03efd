use Rattle.std.proofs.Common.{pos, refl, rules, SFits, w64, get_or, to_z}
use Rattle.std.proofs.lemmas.Option.{get_or_from_slice_get, slice_get-get_or}
use Rattle.std.proofs.Math.Facts.{to_z-of_z}
use mir.Syntax.{w128}
use Rattle.fz_disjunctive.specs.declared.job.Job.{Job}
use Rattle.fz_disjunctive.specs.declared.job.Choice.TheVariants.{Before, EndingBy}
use Rattle.fz_disjunctive.proofs.Ordering.{earliest_known, earliest_same, earliest_behind, behind_before}
use Rattle.fz_disjunctive.proofs.order.start_behind_all.Goals as goal

pub loop-other-init : goal.loop-other-init
loop-other-init c =
    let d : Job = record { place = 0; earliest = pos 0; latest = pos 0; duration = pos 0 } in
    let job = get_or c.args.jobs.now c.args.index d in
    let at = slice_get-get_or c.args.jobs.now c.args.index d c.requires.index in
    let earliest_fits : SFits w64 job.earliest = search rules in
    let from_fits : SFits w128 c.from.result = search rules in
    let end_fits : SFits w128 c.soonest_end-earliest.result = search rules in
    let soonest = rw (to_z-of_z from_fits, c.from.ensures, to_z-of_z earliest_fits) at c.soonest_end-earliest.ensures in
    rw (to_z-of_z end_fits)
    (earliest_behind c.args.jobs.now c.args.index job (Before job) job.earliest c.soonest_end-earliest.result (earliest_known c.args.jobs.now c.args.index job at)
    (behind_before c.args.jobs.now c.args.index job at) soonest)

pub loop-other-preserved : goal.loop-other-preserved
loop-other-preserved c =
    let d : Job = record { place = 0; earliest = pos 0; latest = pos 0; duration = pos 0 } in
    let job = get_or c.args.jobs.now c.args.index d in
    let at = slice_get-get_or c.args.jobs.now c.args.index d c.requires.index in
    let end_fits : SFits w128 c.soonest_end-earliest-in-loop-other.result = search rules in
    rw (to_z-of_z end_fits)
    (earliest_behind c.args.jobs.now c.args.index job (EndingBy _) _ c.soonest_end-earliest-in-loop-other.result c.loop-other.invariant (c.if-not-is_behind.ensures refl job at)
    c.soonest_end-earliest-in-loop-other.ensures)

pub returns : goal.returns
returns c = λ job at.
    let d : Job = record { place = 0; earliest = pos 0; latest = pos 0; duration = pos 0 } in
    earliest_same c.args.jobs.now (to_z w128 c.loop-other.earliest-bits) (get_or c.args.jobs.now c.args.index d) job (get_or_from_slice_get c.args.jobs.now c.args.index job d at) c.loop-other.invariant
