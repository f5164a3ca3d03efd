use Rattle.std.proofs.Common.{◌≡◌, rules, pos, get_or, refl}
use Rattle.std.proofs.Math.Facts.{to_z-of_z}
use mir.Val.{SFits}
use mir.Syntax.{w128}
use Rattle.fz_strength.specs.declared.open_task.OpenTask.{OpenTask}
use Rattle.fz_strength.specs.Cumulatives.{parts_at}
use Rattle.fz_cumulative.proofs.Reading.{map_one_more}
use Rattle.fz_cumulative.proofs.profile.profile.Goals as goal

pub loop-i-preserved : goal.loop-i-preserved
loop-i-preserved c =
    let d0 : OpenTask = record { earliest = pos 0; latest = pos 0; duration = pos 0; usage = pos 0 } in
    let tasks = c.args.tasks.now in
    let i = c.loop-i.i in
    let wide : SFits w128 c.parts_at.result = search rules in
    let load : c.parts_at.result ≡ parts_at (get_or tasks i d0).latest tasks = search rules in
    let more = map_one_more (λ (t : OpenTask). parts_at t.latest tasks) tasks i d0 c.loop-i-test.true in
    rw (c.in_ok-push.ensures.items, to_z-of_z wide, load, c.loop-i.invariant, more) refl
