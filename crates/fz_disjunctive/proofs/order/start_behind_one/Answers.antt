use Rattle.std.proofs.Common.{pos, rules, SFits, w64, get_or, to_z}
use Rattle.std.proofs.lemmas.Option.{get_or_from_slice_get, slice_get-get_or}
use Rattle.std.proofs.Math.Facts.{to_z-of_z}
use mir.Syntax.{w128}
use Rattle.fz_disjunctive.specs.declared.job.Job.{Job}
use Rattle.fz_disjunctive.proofs.Ordering.{earliest_known, earliest_same}
use Rattle.fz_disjunctive.proofs.Loads.{later_of}
use Rattle.fz_disjunctive.proofs.order.start_behind_one.Goals as goal

pub loop-other-init : goal.loop-other-init
loop-other-init c =
    let d : Job = record { place = 0; earliest = pos 0; latest = pos 0; duration = pos 0 } in
    let job = get_or c.args.jobs.now c.args.index d in
    let at = slice_get-get_or c.args.jobs.now c.args.index d c.requires in
    let earliest_fits : SFits w64 job.earliest = search rules in
    let from_fits : SFits w128 c.from-earliest.result = search rules in
    let is = rw (to_z-of_z earliest_fits) at c.from-earliest.ensures in
    rw (to_z-of_z from_fits, is) (earliest_known c.args.jobs.now c.args.index job at)

pub loop-other-preserved : goal.loop-other-preserved
loop-other-preserved c =
    let d : Job = record { place = 0; earliest = pos 0; latest = pos 0; duration = pos 0 } in
    let job = get_or c.args.jobs.now c.args.index d in
    let at = slice_get-get_or c.args.jobs.now c.args.index d c.requires in
    let end_fits : SFits w128 c.in-Some.end = search rules in
    let max_fits : SFits w128 c.max-earliest.result = search rules in
    let value = rw (to_z-of_z end_fits) at c.max-earliest.ensures.value in
    rw (to_z-of_z max_fits, value) (later_of c.args.jobs.now (to_z w128 c.loop-other.earliest-bits) c.in-Some.end job c.loop-other.invariant (c.in-Some.ensures job at))

pub returns : goal.returns
returns c = λ job at.
    let d : Job = record { place = 0; earliest = pos 0; latest = pos 0; duration = pos 0 } in
    earliest_same c.args.jobs.now (to_z w128 c.loop-other.earliest-bits) (get_or c.args.jobs.now c.args.index d) job (get_or_from_slice_get c.args.jobs.now c.args.index job d at) c.loop-other.invariant
