use Rattle.std.proofs.Common.{◌≡◌, ◌<ℤ◌, rules, pos, subst, sym}
use Rattle.std.proofs.Math.Facts.{to_z-of_z}
use mir.Val.{SFits}
use mir.Syntax.{w32}
use Rattle.fz_strength.specs.declared.open_task.OpenTask.{OpenTask}
use Rattle.fz_cumulative.proofs.Blocking.{blocked_before, blocked_always_from}
use Rattle.fz_cumulative.proofs.Reading.{read_is}
use Rattle.fz_cumulative.proofs.finding.later.Goals as goal

pub returns-in-Some : goal.returns-in-Some
returns-in-Some c = λ bound task at lasts conflict.
    let s = c.stretch_at-until.result in
    let fits : SFits w32 c.in-Some.first = search rules in
    let is : c.in-Some.first ≡ s.until = search rules in
    rw (to_z-of_z fits)
    (blocked_before c.args.tasks.now bound c.args.place task c.args.time s.since s.until c.in-Some.first c.requires.sound lasts (rw (to_z-of_z c.ranges.time) at c.stretch_at-until.ensures.stretch) at conflict is)

pub returns-in-None : goal.returns-in-None
returns-in-None c = λ bound task at lasts conflict.
    let d0 : OpenTask = record { earliest = pos 0; latest = pos 0; duration = pos 0; usage = pos 0 } in
    let s = c.stretch_at-until.result in
    let below : task.latest <ℤ s.until = subst (λ (t : OpenTask). t.latest <ℤ s.until) (sym (read_is c.args.tasks.now c.args.place task d0 at)) (search rules) in
    blocked_always_from c.args.tasks.now bound c.args.place task c.args.time s.since s.until c.requires.sound lasts (rw (to_z-of_z c.ranges.time) at c.stretch_at-until.ensures.stretch) at conflict below
