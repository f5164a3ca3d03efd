use Rattle.std.proofs.Common.{◌≡◌, ◌<ℤ◌, rules, get_or, pos, subst, sym}
use Rattle.std.specs.List.{AllByRecursion}
use Rattle.std.specs.Prelude.{ℤ, List, ◌+ℤ◌, ◌≤ℤ◌}
use Rattle.std.proofs.lemmas.Option.{slice_get-get_or}
use Rattle.std.proofs.Math.Facts.{to_z-of_z}
use Rattle.fz_strength.specs.declared.open_task.OpenTask.{OpenTask}
use Rattle.fz_cumulative.proofs.Reading.{read_is}
use Rattle.fz_cumulative.proofs.Whole.{fixed_has_room, small_has_room}
use Rattle.fz_cumulative.proofs.finding.where_blocked.Goals as goal

pub returns-then-task-clause-none : goal.returns-then-task-clause-none
returns-then-task-clause-none c = λ none task at.
    let d0 : OpenTask = record { earliest = pos 0; latest = pos 0; duration = pos 0; usage = pos 0 } in
    let tasks = c.args.tasks.now in
    let read = get_or tasks c.args.place d0 in
    let once : read.earliest ≡ read.latest = search rules in
    fixed_has_room tasks c.args.high c.args.place task c.requires.sound c.requires.positive
    (subst (λ (loads : List ℤ). AllByRecursion (λ (load : ℤ). load ≤ℤ c.args.high) loads) c.requires.profile c.requires.within) at
    (subst (λ (t : OpenTask). t.earliest ≡ t.latest) (sym (read_is tasks c.args.place task d0 at)) once)

pub blocked_at-requires-clause-lasts : goal.blocked_at-requires-clause-lasts
blocked_at-requires-clause-lasts c =
    let d0 : OpenTask = record { earliest = pos 0; latest = pos 0; duration = pos 0; usage = pos 0 } in
    let tasks = c.args.tasks.now in
    let lasts : pos 0 <ℤ (get_or tasks c.args.place d0).duration = search rules in
    record { task = get_or tasks c.args.place d0; at = slice_get-get_or tasks c.args.place d0 c.requires.place; holds = lasts }

pub returns-then-is_small-clause-none : goal.returns-then-is_small-clause-none
returns-then-is_small-clause-none c = λ none task at.
    let d0 : OpenTask = record { earliest = pos 0; latest = pos 0; duration = pos 0; usage = pos 0 } in
    let tasks = c.args.tasks.now in
    let read = get_or tasks c.args.place d0 in
    let small = c.is_small.ensures c.if-is_small.true in
    small_has_room tasks c.args.peak c.args.high c.args.place task c.requires.sound c.requires.some
    (subst (λ (loads : List ℤ). AllByRecursion (λ (load : ℤ). load ≤ℤ c.args.peak) loads) c.requires.profile c.requires.peak) at
    (subst (λ (t : OpenTask). (c.args.peak +ℤ t.usage) ≤ℤ c.args.high) (sym (read_is tasks c.args.place task d0 at)) (rw (to_z-of_z c.ranges.peak, to_z-of_z c.ranges.high) at small))

pub blocked_at-requires-clause-sound : goal.blocked_at-requires-clause-sound
blocked_at-requires-clause-sound c = c.requires.sound

pub blocked_at-requires-clause-profile : goal.blocked_at-requires-clause-profile
blocked_at-requires-clause-profile c = c.requires.profile

pub blocked_at-requires-clause-place : goal.blocked_at-requires-clause-place
blocked_at-requires-clause-place c = c.requires.place

pub returns-clause-some : goal.returns-clause-some
returns-clause-some c = rw (to_z-of_z c.ranges.high) at c.blocked_at.ensures.some

pub returns-clause-none : goal.returns-clause-none
returns-clause-none c = λ none task at lasts uses. (rw (to_z-of_z c.ranges.high) at c.blocked_at.ensures.none) none task at
