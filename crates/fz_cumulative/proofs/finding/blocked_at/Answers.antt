use Rattle.std.proofs.Common.{◌<ℤ◌, rules, get_or, pos, refl, subst, sym, ◌∙◌}
use Rattle.std.proofs.lemmas.Option.{slice_get-get_or}
use Rattle.std.proofs.Math.Facts.{to_z-of_z}
use mir.Val.{SFits}
use mir.Syntax.{w32}
use Rattle.fz_sets.proofs.Lists.{some_is}
use Rattle.fz_strength.specs.declared.open_task.OpenTask.{OpenTask}
use Rattle.fz_strength.specs.Cumulatives.{IsRoom}
use Rattle.fz_cumulative.proofs.Reading.{read_is}
use Rattle.fz_cumulative.proofs.finding.blocked_at.Goals as goal

pub returns-in-Some-clause-some : goal.returns-in-Some-clause-some
returns-in-Some-clause-some c =
    let d0 : OpenTask = record { earliest = pos 0; latest = pos 0; duration = pos 0; usage = pos 0 } in
    let tasks = c.args.tasks.now in
    let task = get_or tasks c.args.place d0 in
    let at = slice_get-get_or tasks c.args.place d0 c.requires.place in
    let lasts = subst (λ (t : OpenTask). pos 0 <ℤ t.duration) (some_is c.requires.lasts.task task (sym c.requires.lasts.at ∙ at)) c.requires.lasts.holds in
    let fits : SFits w32 task.earliest = search rules in
    let fits_time : SFits w32 c.in-Some.time = search rules in
    let met = rw (to_z-of_z fits, to_z-of_z c.ranges.high) at (c.in-Some.ensures.some task at) in
    c.later.ensures c.args.high task at lasts (rw (to_z-of_z fits_time) met)

pub returns-in-Some-conflict-clause-some : goal.returns-in-Some-conflict-clause-some
returns-in-Some-conflict-clause-some c =
    let d0 : OpenTask = record { earliest = pos 0; latest = pos 0; duration = pos 0; usage = pos 0 } in
    let tasks = c.args.tasks.now in
    let task = get_or tasks c.args.place d0 in
    let at = slice_get-get_or tasks c.args.place d0 c.requires.place in
    let lasts = subst (λ (t : OpenTask). pos 0 <ℤ t.duration) (some_is c.requires.lasts.task task (sym c.requires.lasts.at ∙ at)) c.requires.lasts.holds in
    let fits : SFits w32 task.latest = search rules in
    let fits_time : SFits w32 c.in-Some-conflict.time = search rules in
    let met = rw (to_z-of_z fits, to_z-of_z c.ranges.high) at (c.in-Some-conflict.ensures.some task at) in
    c.earlier.ensures c.args.high task at lasts (rw (to_z-of_z fits_time) met)

pub returns-clause-none : goal.returns-clause-none
returns-clause-none c = λ none task at.
    let d0 : OpenTask = record { earliest = pos 0; latest = pos 0; duration = pos 0; usage = pos 0 } in
    let tasks = c.args.tasks.now in
    let read = get_or tasks c.args.place d0 in
    let same = sym (read_is tasks c.args.place task d0 at) in
    let earliest : SFits w32 read.earliest = search rules in
    let latest : SFits w32 read.latest = search rules in (
      subst (λ (t : OpenTask). IsRoom tasks c.args.high c.args.place task t.earliest) same (rw (to_z-of_z earliest, to_z-of_z c.ranges.high) at (c.in_default.ensures.none task at refl)),
      subst (λ (t : OpenTask). IsRoom tasks c.args.high c.args.place task t.latest) same (rw (to_z-of_z latest, to_z-of_z c.ranges.high) at (c.in_default-conflict.ensures.none task at refl)),
    )
