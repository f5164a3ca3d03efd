use Rattle.std.proofs.Common.{◌≡◌, ◌<ℤ◌, rules, arith, get_or, pos, subst, sym, ◌∙◌}
use Rattle.std.proofs.Math.Facts.{to_z-of_z}
use mir.Val.{SFits}
use mir.Syntax.{w32, w128}
use Rattle.fz_sets.proofs.Lists.{some_is}
use Rattle.fz_strength.specs.declared.open_task.OpenTask.{OpenTask}
use Rattle.fz_strength.specs.Cumulatives.{parts_at}
use Rattle.fz_cumulative.specs.Tasks.{IsMet}
use Rattle.fz_cumulative.proofs.Conflicts.{load_is, conflict_read, fits_more, room_of}
use Rattle.fz_cumulative.proofs.profile.conflict.Goals as goal

pub returns-then-meets-clause-some : goal.returns-then-meets-clause-some
returns-then-meets-clause-some c = λ task at.
    let d0 : OpenTask = record { earliest = pos 0; latest = pos 0; duration = pos 0; usage = pos 0 } in
    let tasks = c.args.tasks.now in
    let start = c.args.start in
    let load = c.parts_at.result in
    let wide : SFits w128 load = search rules in
    let is : load ≡ parts_at start tasks = search rules in
    let met : IsMet (get_or tasks c.args.place d0) load start start c.args.bound = rw (to_z-of_z wide, to_z-of_z c.ranges.start, to_z-of_z c.ranges.bound) at (c.meets.ensures.0 c.if-meets.true) in
    rw (to_z-of_z c.ranges.start) (conflict_read tasks c.args.bound c.args.place task d0 start start load at is met)

pub returns-then-meets-2-clause-some : goal.returns-then-meets-2-clause-some
returns-then-meets-2-clause-some c = λ task at.
    let d0 : OpenTask = record { earliest = pos 0; latest = pos 0; duration = pos 0; usage = pos 0 } in
    let tasks = c.args.tasks.now in
    let start = c.args.start in
    let i = c.loop-i.i in
    let time = (get_or tasks i d0).latest in
    let load = get_or c.args.loads.now i (pos 0) in
    let wide : SFits w128 load = search rules in
    let fits : SFits w32 time = search rules in
    let met : IsMet (get_or tasks c.args.place d0) load start time c.args.bound = rw (to_z-of_z wide, to_z-of_z c.ranges.start, to_z-of_z fits, to_z-of_z c.ranges.bound) at (c.meets-in-loop-i.ensures.0 c.if-meets-2.true) in
    rw (to_z-of_z fits) (conflict_read tasks c.args.bound c.args.place task d0 start time load at (load_is c.args.loads.now tasks i (pos 0) d0 c.requires.profile c.loop-i-test.true) met)

pub loop-i-preserved : goal.loop-i-preserved
loop-i-preserved c = λ task at.
    let d0 : OpenTask = record { earliest = pos 0; latest = pos 0; duration = pos 0; usage = pos 0 } in
    let tasks = c.args.tasks.now in
    let start = c.args.start in
    let i = c.loop-i.i in
    let time = (get_or tasks i d0).latest in
    let load = get_or c.args.loads.now i (pos 0) in
    let wide : SFits w128 load = search rules in
    let fits : SFits w32 time = search rules in
    let tells = rw (to_z-of_z wide, to_z-of_z c.ranges.start, to_z-of_z fits, to_z-of_z c.ranges.bound) at c.meets-in-loop-i.ensures in
    rw (to_z-of_z c.ranges.bound, to_z-of_z c.ranges.start)
    (fits_more tasks c.args.bound c.args.place task d0 d0 start load i at c.loop-i-test.true (load_is c.args.loads.now tasks i (pos 0) d0 c.requires.profile c.loop-i-test.true)
    (λ met. let is = tells.1 met in let not = c.if-meets-2.false in cc)
    (rw (to_z-of_z c.ranges.bound, to_z-of_z c.ranges.start) at (c.loop-i.invariant task at)))

pub returns-clause-none : goal.returns-clause-none
returns-clause-none c = λ task at none.
    let d0 : OpenTask = record { earliest = pos 0; latest = pos 0; duration = pos 0; usage = pos 0 } in
    let tasks = c.args.tasks.now in
    let start = c.args.start in
    let load = c.parts_at.result in
    let wide : SFits w128 load = search rules in
    let is : load ≡ parts_at start tasks = search rules in
    let tells = rw (to_z-of_z wide, to_z-of_z c.ranges.start, to_z-of_z c.ranges.bound) at c.meets.ensures in
    let end = c.loop-i-test.false in
    let lasts : pos 0 <ℤ task.duration =
    subst (λ (t : OpenTask). pos 0 <ℤ t.duration) (some_is c.requires.lasts.task task (sym c.requires.lasts.at ∙ at)) c.requires.lasts.holds in
    room_of tasks c.args.bound c.args.place task d0 start load c.loop-i.i c.requires.sound at lasts is
    (λ met. let met_is = tells.1 met in let not = c.if-meets.false in cc) (omega (arith, end))
    (rw (to_z-of_z c.ranges.bound, to_z-of_z c.ranges.start) at (c.loop-i.invariant task at))
