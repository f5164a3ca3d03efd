use Rattle.std.proofs.Common.{◌<ℤ◌, ◌≤ℤ◌, inl, inr, refl, pos, rules, get_or, arith}
use Rattle.std.proofs.Math.Facts.{to_z-of_z}
use Rattle.std.proofs.lemmas.Option.{slice_get-get_or}
use Rattle.fz_column.specs.declared.supports.Support.{Support}
use Rattle.fz_column.proofs.Walking.{below_more, first_at, first_last, first_far}
use Rattle.fz_column.proofs.walk.first_from.Goals as goal

pub returns-then-first-supports : goal.returns-then-first-supports
returns-then-first-supports c =
    let past = c.if-first-supports.true in
    first_last c.args.supports.now c.args.place c.args.value c.loop.first (omega (arith, past)) (rw (to_z-of_z c.ranges.value) at c.loop.invariant)

pub returns-then-supports-first : goal.returns-then-supports-first
returns-then-supports-first c =
    let xs = c.args.supports.now in
    let k = c.loop.first in
    let none : Support = record { number = pos 0; rows = record { word = 0; bits = 0 } } in
    let s = get_or xs k none in
    let past = c.if-first-supports.false in
    let at = slice_get-get_or xs k none (omega (arith, past)) in
    let here : c.args.value ≤ℤ s.number = search rules in
    first_at xs c.args.place c.args.value k s c.requires.order at here (rw (to_z-of_z c.ranges.value) at c.loop.invariant)

pub loop-preserved : goal.loop-preserved
loop-preserved c =
    let xs = c.args.supports.now in
    let k = c.loop.first in
    let none : Support = record { number = pos 0; rows = record { word = 0; bits = 0 } } in
    let s = get_or xs k none in
    let past = c.if-first-supports.false in
    let at = slice_get-get_or xs k none (omega (arith, past)) in
    let low : s.number <ℤ c.args.value = search rules in
    rw (to_z-of_z c.ranges.value)
    (below_more xs c.args.place c.args.value k c.next_of-first.result s c.next_of-first.ensures at low (rw (to_z-of_z c.ranges.value) at c.loop.invariant))

pub returns-then-far-first : goal.returns-then-far-first
returns-then-far-first c =
    let before = c.if-far-first.true in
    first_far c.args.supports.now c.args.place c.args.value c.loop.first c.count_below-far.result c.loop.first c.count_below-far.ensures.bound
    (rw (to_z-of_z c.ranges.value) at c.count_below-far.ensures.below) (rw (to_z-of_z c.ranges.value) at c.count_below-far.ensures.above)
    (rw (to_z-of_z c.ranges.value) at c.loop.invariant) (omega arith) (omega (arith, before)) (inl refl)

pub returns : goal.returns
returns c =
    let after = c.if-far-first.false in
    first_far c.args.supports.now c.args.place c.args.value c.loop.first c.count_below-far.result c.count_below-far.result c.count_below-far.ensures.bound
    (rw (to_z-of_z c.ranges.value) at c.count_below-far.ensures.below) (rw (to_z-of_z c.ranges.value) at c.count_below-far.ensures.above)
    (rw (to_z-of_z c.ranges.value) at c.loop.invariant) (omega (arith, after)) (omega arith) (inr refl)
