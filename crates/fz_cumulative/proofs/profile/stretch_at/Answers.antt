use Rattle.std.proofs.Common.{arith, get_or, pos, subst}
use Rattle.std.proofs.lemmas.Option.{slice_get-get_or}
use Rattle.std.proofs.Math.Facts.{to_z-of_z}
use Rattle.fz_strength.specs.declared.open_task.OpenTask.{OpenTask}
use Rattle.fz_cumulative.specs.Tasks.{IsInPart}
use Rattle.fz_cumulative.proofs.Reading.{read_is}
use Rattle.fz_cumulative.proofs.Stretches.{stretch_passed, stretch_more, stretch_all}
use Rattle.fz_cumulative.proofs.profile.stretch_at.Goals.{then-i-place+then-is_in_part, else-i-place, else-i-place-via-then-i-place+else-is_in_part, else-i-place-via-else-i-place}
use Rattle.fz_cumulative.proofs.profile.stretch_at.Goals as goal

pub loop-i-preserved : goal.loop-i-preserved
loop-i-preserved c =
    let d0 : OpenTask = record { earliest = pos 0; latest = pos 0; duration = pos 0; usage = pos 0 } in
    let tasks = c.args.tasks.now in
    let place = c.args.place in
    let time = c.args.time in
    let i = c.loop-i.i in
    let since = c.loop-i.stretch.since in
    let until = c.loop-i.stretch.until in
    let task = get_or tasks i d0 in
    let at = slice_get-get_or tasks i d0 c.loop-i-test.true in
    let before = rw (to_z-of_z c.ranges.time) at c.loop-i.invariant in
    elim c.if-i-place.branch [
      | then-i-place+then-is_in_part w ↦
          let inside = rw (to_z-of_z c.ranges.time) at (w.is_in_part.ensures.0 w.if-is_in_part.true) in
          rw (to_z-of_z c.ranges.time, w.stretch-is, w.shorter-stretch.ensures.since, w.shorter-stretch.ensures.until)
          (stretch_more tasks place time since until i task at inside before)
      | else-i-place w ↦ elim w.else-i-place.branch [
        | else-i-place-via-then-i-place+else-is_in_part v ↦
            let tells = rw (to_z-of_z c.ranges.time) at v.is_in_part.ensures in
            rw (to_z-of_z c.ranges.time, w.stretch-is)
            (stretch_passed tasks place time since until i (λ other ne at_other inside.
            let is = tells.1 (subst (λ (t : OpenTask). IsInPart t time) (read_is tasks i other d0 at_other) inside) in let not = v.if-is_in_part.false in cc) before)
        | else-i-place-via-else-i-place v ↦
            rw (to_z-of_z c.ranges.time, w.stretch-is) (stretch_passed tasks place time since until i (λ other ne at_other inside. ne v.if-i-place.false) before)
      ]
    ]

pub returns-clause-stretch : goal.returns-clause-stretch
returns-clause-stretch c =
    let end = c.loop-i-test.false in
    stretch_all c.args.tasks.now c.args.place c.args.time c.loop-i.stretch.since c.loop-i.stretch.until c.loop-i.i (omega (arith, end)) (rw (to_z-of_z c.ranges.time) at c.loop-i.invariant)
