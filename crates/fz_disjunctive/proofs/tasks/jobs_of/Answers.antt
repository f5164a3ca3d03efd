use Rattle.std.proofs.Common.{refl, pos, get_or}
use Rattle.std.proofs.Math.Facts.{to_z-of_z}
use Rattle.std.proofs.lemmas.Option.{slice_get-get_or}
use Rattle.fz_strength.specs.declared.open_task.OpenTask.{OpenTask}
use Rattle.fz_disjunctive.proofs.Places.{sofar_same, sofar_more, in_order}
use Rattle.fz_disjunctive.proofs.tasks.jobs_of.Goals as goal

pub loop-place-preserved-then-not-is_wide : goal.loop-place-preserved-then-not-is_wide
loop-place-preserved-then-not-is_wide c = sofar_same c.args.direction c.args.tasks.now _ c.loop-place.jobs.items c.loop-place.place c.loop-place.invariant

pub loop-place-preserved-then-runs_alone : goal.loop-place-preserved-then-runs_alone
loop-place-preserved-then-runs_alone c = sofar_same c.args.direction c.args.tasks.now _ c.loop-place.jobs.items c.loop-place.place c.loop-place.invariant

pub loop-place-preserved : goal.loop-place-preserved
loop-place-preserved c =
    let d : OpenTask = record { earliest = pos 0; latest = pos 0; duration = pos 0; usage = pos 0 } in
    let task = get_or c.args.tasks.now c.loop-place.place d in
    rw c.in_ok-push.ensures.items
    (sofar_more c.args.direction c.args.tasks.now _ c.loop-place.jobs.items c.loop-place.place c.job_of.result task c.loop-place.invariant c.job_of.ensures
    (slice_get-get_or c.args.tasks.now c.loop-place.place d c.loop-place-test.true) (c.if-not-is_wide.ensures refl))

pub returns : goal.returns
returns c =
    in_order c.args.direction c.args.tasks.now c.args.high c.loop-place.jobs.items c.sort_unstable_by.new.self.items c.loop-place.place
    (rw (to_z-of_z c.ranges.high) at c.loop-place.invariant) c.sort_unstable_by.ensures.permutation
