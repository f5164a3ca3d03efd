use Rattle.std.proofs.Common.{◌≡◌, ◌<ℤ◌, ◌-ℤ◌, ◌≤ℤ◌, rules, pos, subst, sym, ap, ◌∙◌, arith, get_or}
use Rattle.std.proofs.lemmas.Int.{ints}
use Rattle.std.proofs.Math.Facts.{to_z-of_z}
use mir.Val.{SFits}
use mir.Syntax.{w32}
use Rattle.fz_sets.proofs.Lists.{all_get}
use Rattle.fz_strength.specs.declared.open_task.OpenTask.{OpenTask}
use Rattle.fz_strength.specs.Cumulatives.{IsSound}
use Rattle.fz_cumulative.proofs.Blocking.{blocked_after, blocked_always_to}
use Rattle.fz_cumulative.proofs.Reading.{read_is}
use Rattle.fz_cumulative.proofs.finding.earlier.Goals as goal

pub no_earlier-requires : goal.no_earlier-requires
no_earlier-requires c =
    let d0 : OpenTask = record { earliest = pos 0; latest = pos 0; duration = pos 0; usage = pos 0 } in
    let s = c.stretch_at-since.result in
    let task = get_or c.args.tasks.now c.args.place d0 in
    let begun : s.since ≤ℤ c.args.time = search rules in
    let fits = c.ranges.time in
    let sound = (all_get IsSound c.args.tasks.now c.args.place d0 c.requires.place c.requires.sound).0 in
    let is : c.minus.result ≡ s.since -ℤ task.duration = search rules in
    omega (arith, ints, begun, fits, sound, is)

pub returns-in-Some : goal.returns-in-Some
returns-in-Some c = λ bound task at lasts conflict.
    let d0 : OpenTask = record { earliest = pos 0; latest = pos 0; duration = pos 0; usage = pos 0 } in
    let tasks = c.args.tasks.now in
    let s = c.stretch_at-since.result in
    let fits : SFits w32 c.in-Some.last = search rules in
    let same = sym (read_is tasks c.args.place task d0 at) in
    let last : c.in-Some.last ≡ c.minus.result = search rules in
    let is : c.minus.result ≡ s.since -ℤ (get_or tasks c.args.place d0).duration = search rules in
    rw (to_z-of_z fits)
    (blocked_after tasks bound c.args.place task c.args.time s.since s.until c.in-Some.last c.requires.sound lasts (rw (to_z-of_z c.ranges.time) at c.stretch_at-since.ensures.stretch) at conflict
    (last ∙ is ∙ ap (λ (t : OpenTask). s.since -ℤ t.duration) same))

pub returns-in-None : goal.returns-in-None
returns-in-None c = λ bound task at lasts conflict.
    let d0 : OpenTask = record { earliest = pos 0; latest = pos 0; duration = pos 0; usage = pos 0 } in
    let tasks = c.args.tasks.now in
    let s = c.stretch_at-since.result in
    let read = get_or tasks c.args.place d0 in
    let same = sym (read_is tasks c.args.place task d0 at) in
    let below : c.minus.result <ℤ read.earliest = search rules in
    let is : c.minus.result ≡ s.since -ℤ read.duration = search rules in
    blocked_always_to tasks bound c.args.place task c.args.time s.since s.until c.requires.sound lasts (rw (to_z-of_z c.ranges.time) at c.stretch_at-since.ensures.stretch) at conflict
    (subst (λ (t : OpenTask). (s.since -ℤ t.duration) <ℤ t.earliest) same (omega (arith, ints, below, is)))
