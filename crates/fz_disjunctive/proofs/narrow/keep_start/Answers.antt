use Rattle.std.proofs.Common.{◌≡◌, rules, arith, List, SFits, w64}
use Rattle.std.specs.Prelude.{ℤ, pos, ◌-ℤ◌, ◌≤ℤ◌}
use Rattle.std.proofs.lemmas.Int.{ints}
use Rattle.std.proofs.Math.Facts.{to_z-of_z}
use mir.Syntax.{w128, w32}
use Rattle.fz_spec.specs.Constraints.{term_value}
use Rattle.fz_prop.proofs.Steps.{same_shrinks}
use Rattle.fz_prop.proofs.TermChanges.{within_kept}
use Rattle.fz_disjunctive.specs.declared.job.Direction.{Direction}
use Rattle.fz_disjunctive.specs.declared.job.Direction.TheVariants.{Backward}
use Rattle.fz_disjunctive.specs.Jobs.{begins}
use Rattle.fz_prop.proofs.Keeping.{change_outcome}
use Rattle.fz_disjunctive.proofs.narrow.keep_start.Goals as goal

last_of : (direction : Direction) (time start duration last : ℤ) → direction ≡ Backward → last ≡ ((pos 0 -ℤ time) -ℤ duration) → time ≤ℤ begins direction start duration → start ≤ℤ last
last_of direction time start duration last is at from = let h : time ≤ℤ begins Backward start duration = rw is at from in omega (arith, ints, at, h)

pub returns-in_ok-keep_to-in-Ok-try_from-2-clause-correct : goal.returns-in_ok-keep_to-in-Ok-try_from-2-clause-correct
returns-in_ok-keep_to-in-Ok-try_from-2-clause-correct c = λ a holds within.
    let time_fits : SFits w64 c.in-Ok.time = search rules in
    let value_fits : SFits w128 c.last_start.result = search rules in
    let time = rw (to_z-of_z c.ranges.time) at c.in-Ok.ensures.1 in
    let value = rw (to_z-of_z time_fits, to_z-of_z c.ranges.duration) at c.last_start.ensures in
    let last = rw (to_z-of_z value_fits) at c.in-Ok-try_from-2.ensures.1 in
    let last_is : c.in-Ok-try_from-2.last ≡ ((pos 0 -ℤ c.args.time) -ℤ c.args.duration) = omega (arith, ints, time, value, last) in
    let last_fits : SFits w32 c.in-Ok-try_from-2.last = search rules in
    within_kept c.in_ok-keep_to-in-Ok-try_from-2.field-0 c.args.start (λ (x : ℤ). x ≤ℤ c.in-Ok-try_from-2.last) c.args.store.now c.keep_to.new.store a (rw (to_z-of_z last_fits) at c.in_ok-keep_to-in-Ok-try_from-2.ensures.change)
    c.in_ok-keep_to-in-Ok-try_from-2.ensures.shrinks within
    (last_of c.args.direction c.args.time (term_value a c.args.start) c.args.duration c.in-Ok-try_from-2.last c.in-Backward.is last_is holds)

pub returns-in_ok-keep_to-in-Ok-try_from-2-clause-outcome : goal.returns-in_ok-keep_to-in-Ok-try_from-2-clause-outcome
returns-in_ok-keep_to-in-Ok-try_from-2-clause-outcome c =
    let time_fits : SFits w64 c.in-Ok.time = search rules in
    let value_fits : SFits w128 c.last_start.result = search rules in
    let time = rw (to_z-of_z c.ranges.time) at c.in-Ok.ensures.1 in
    let value = rw (to_z-of_z time_fits, to_z-of_z c.ranges.duration) at c.last_start.ensures in
    let last = rw (to_z-of_z value_fits) at c.in-Ok-try_from-2.ensures.1 in
    let last_is : c.in-Ok-try_from-2.last ≡ ((pos 0 -ℤ c.args.time) -ℤ c.args.duration) = omega (arith, ints, time, value, last) in
    let last_fits : SFits w32 c.in-Ok-try_from-2.last = search rules in
    change_outcome c.in_ok-keep_to-in-Ok-try_from-2.field-0 c.args.start (λ (x : ℤ). x ≤ℤ c.in-Ok-try_from-2.last) (λ (a : List ℤ). c.args.time ≤ℤ begins c.args.direction (term_value a c.args.start) c.args.duration)
    c.args.store.now c.keep_to.new.store c.requires
    (λ a holds. last_of c.args.direction c.args.time (term_value a c.args.start) c.args.duration c.in-Ok-try_from-2.last c.in-Backward.is last_is holds)
    (rw (to_z-of_z last_fits) at c.in_ok-keep_to-in-Ok-try_from-2.ensures.change)

pub returns-in-Err-try_from-clause-shrinks : goal.returns-in-Err-try_from-clause-shrinks
returns-in-Err-try_from-clause-shrinks c = same_shrinks c.args.store.now
