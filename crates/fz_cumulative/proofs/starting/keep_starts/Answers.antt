use Rattle.std.proofs.Common.{refl, sym, subst, ℕ, get_or, pos, rules}
use Rattle.std.proofs.Math.Facts.{to_z-of_z}
use mir.Val.{SFits}
use mir.Syntax.{w128}
use Rattle.fz_spec.specs.declared.term.Term.TheVariants.{Num}
use Rattle.fz_strength.specs.Domains.{Within, IsTermOf}
use Rattle.fz_prop.specs.Stores.{Stored}
use Rattle.fz_prop.proofs.Twice.{shrinks_twice}
use Rattle.fz_cumulative.proofs.FreeStarts.{start_inside, held_at, term_of, kept_passed, kept_free, kept_fails, kept_more}
use Rattle.fz_cumulative.proofs.starting.keep_starts.Goals as goal

pub loop-place-preserved-in_default : goal.loop-place-preserved-in_default
loop-place-preserved-in_default c =
    rw (to_z-of_z c.ranges.high)
    (kept_passed c.args.store.now c.loop-place.store c.args.tasks.now c.args.high c.args.starts.now c.loop-place.has_changed c.loop-place.place
    (rw (to_z-of_z c.ranges.high) at (c.in_default.ensures.none refl)) (rw (to_z-of_z c.ranges.high) at c.loop-place.invariant))

pub bounds-starts-place : goal.bounds-starts-place
bounds-starts-place c =
    start_inside c.args.store.now.doms c.args.tasks.now c.args.starts.now c.loop-place.place (record { earliest = pos 0; latest = pos 0; duration = pos 0; usage = pos 0 }) c.requires.starts c.loop-place-test.true

pub keep_start-requires : goal.keep_start-requires
keep_start-requires c =
    let t = get_or c.args.starts.now c.loop-place.place (Num (pos 0)) in
    let held =
    held_at c.args.store.now.doms c.args.tasks.now c.args.high c.args.starts.now c.loop-place.place c.in-Some.blocked (record { earliest = pos 0; latest = pos 0; duration = pos 0; usage = pos 0 }) (Num (pos 0))
    c.requires.terms c.doms.ensures.store.domains c.requires.starts c.loop-place-test.true (rw (to_z-of_z c.ranges.high) at c.in-Some.ensures.some) in
    subst (λ (n : ℕ). IsTermOf n t) (sym c.loop-place.invariant.shrinks.narrower.size)
    (term_of c.args.store.now.doms c.args.tasks.now c.args.high c.args.starts.now c.loop-place.place c.in-Some.blocked t held)

pub returns-in_err-change-clause-free : goal.returns-in_err-change-clause-free
returns-in_err-change-clause-free c = λ a free within.
    subst (λ (u : Stored). Within u.doms a) (sym c.in_err-change.ensures.err) ((rw (to_z-of_z c.ranges.high) at c.loop-place.invariant.free) a free within)

pub returns-in-Wiped-clause-free : goal.returns-in-Wiped-clause-free
returns-in-Wiped-clause-free c =
    let held =
    held_at c.args.store.now.doms c.args.tasks.now c.args.high c.args.starts.now c.loop-place.place c.in-Some.blocked (record { earliest = pos 0; latest = pos 0; duration = pos 0; usage = pos 0 }) (Num (pos 0))
    c.requires.terms c.doms.ensures.store.domains c.requires.starts c.loop-place-test.true (rw (to_z-of_z c.ranges.high) at c.in-Some.ensures.some) in
    kept_free c.in_ok-change.change c.args.store.now c.loop-place.store c.keep_start.new.store c.args.tasks.now c.args.high c.args.starts.now c.loop-place.place c.in-Some.blocked
    (get_or c.args.starts.now c.loop-place.place (Num (pos 0))) held c.in_ok-change.ensures.change c.in_ok-change.ensures.shrinks (rw (to_z-of_z c.ranges.high) at c.loop-place.invariant.free)

pub returns-in-Wiped-clause-change : goal.returns-in-Wiped-clause-change
returns-in-Wiped-clause-change c =
    let held =
    held_at c.args.store.now.doms c.args.tasks.now c.args.high c.args.starts.now c.loop-place.place c.in-Some.blocked (record { earliest = pos 0; latest = pos 0; duration = pos 0; usage = pos 0 }) (Num (pos 0))
    c.requires.terms c.doms.ensures.store.domains c.requires.starts c.loop-place-test.true (rw (to_z-of_z c.ranges.high) at c.in-Some.ensures.some) in
    kept_fails c.args.store.now c.loop-place.store c.keep_start.new.store c.args.tasks.now c.args.high c.args.starts.now c.loop-place.has_changed c.loop-place.place c.in-Some.blocked
    (get_or c.args.starts.now c.loop-place.place (Num (pos 0))) held (rw c.in-Wiped.is at c.in_ok-change.ensures.change) (rw (to_z-of_z c.ranges.high) at c.loop-place.invariant)

pub loop-place-preserved : goal.loop-place-preserved
loop-place-preserved c =
    let held =
    held_at c.args.store.now.doms c.args.tasks.now c.args.high c.args.starts.now c.loop-place.place c.in-Some.blocked (record { earliest = pos 0; latest = pos 0; duration = pos 0; usage = pos 0 }) (Num (pos 0))
    c.requires.terms c.doms.ensures.store.domains c.requires.starts c.loop-place-test.true (rw (to_z-of_z c.ranges.high) at c.in-Some.ensures.some) in
    rw (to_z-of_z c.ranges.high)
    (kept_more c.in_ok-change.change c.args.store.now c.loop-place.store c.keep_start.new.store c.args.tasks.now c.args.high c.args.starts.now c.loop-place.has_changed c.loop-place.place c.in-Some.blocked
    (get_or c.args.starts.now c.loop-place.place (Num (pos 0))) held c.in_default-change.not-Wiped c.in_ok-change.ensures.change c.in_ok-change.ensures.shrinks
    (rw (to_z-of_z c.ranges.high) at c.loop-place.invariant))

pub returns-then-has_changed-clause-free : goal.returns-then-has_changed-clause-free
returns-then-has_changed-clause-free c = rw (to_z-of_z c.ranges.high) at c.loop-place.invariant.free

pub where_blocked-requires-clause-peak : goal.where_blocked-requires-clause-peak
where_blocked-requires-clause-peak c =
    let fits : SFits w128 c.peak-peak.result = search rules in
    rw (to_z-of_z fits) c.peak-peak.ensures.above

pub where_blocked-requires-clause-some : goal.where_blocked-requires-clause-some
where_blocked-requires-clause-some c =
    let fits : SFits w128 c.peak-peak.result = search rules in
    rw (to_z-of_z fits) c.peak-peak.ensures.positive

pub where_blocked-requires-clause-positive : goal.where_blocked-requires-clause-positive
where_blocked-requires-clause-positive c = rw (to_z-of_z c.ranges.high) c.requires.positive

pub where_blocked-requires-clause-within : goal.where_blocked-requires-clause-within
where_blocked-requires-clause-within c = rw (to_z-of_z c.ranges.high) c.requires.within

pub where_blocked-requires-clause-profile : goal.where_blocked-requires-clause-profile
where_blocked-requires-clause-profile c = c.requires.profile

pub where_blocked-requires-clause-sound : goal.where_blocked-requires-clause-sound
where_blocked-requires-clause-sound c = c.requires.sound

pub returns-in-Wiped-clause-shrinks : goal.returns-in-Wiped-clause-shrinks
returns-in-Wiped-clause-shrinks c = shrinks_twice c.args.store.now c.loop-place.store c.keep_start.new.store c.loop-place.invariant.shrinks c.in_ok-change.ensures.shrinks

pub returns-in_err-change-clause-shrinks : goal.returns-in_err-change-clause-shrinks
returns-in_err-change-clause-shrinks c = shrinks_twice c.args.store.now c.loop-place.store c.keep_start.new.store c.loop-place.invariant.shrinks c.in_err-change.ensures.shrinks

pub returns-else-has_changed-clause-free : goal.returns-else-has_changed-clause-free
returns-else-has_changed-clause-free c = rw (to_z-of_z c.ranges.high) at c.loop-place.invariant.free

pub returns-then-has_changed-clause-shrinks : goal.returns-then-has_changed-clause-shrinks
returns-then-has_changed-clause-shrinks c = c.loop-place.invariant.shrinks

pub returns-else-has_changed-clause-shrinks : goal.returns-else-has_changed-clause-shrinks
returns-else-has_changed-clause-shrinks c = c.loop-place.invariant.shrinks
