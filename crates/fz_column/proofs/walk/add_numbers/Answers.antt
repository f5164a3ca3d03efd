use Rattle.std.proofs.Common.{◌≡◌, ◌<◌, ◌<ℤ◌, ◌≤ℤ◌, ◌+◌, ◌-◌, refl, pos, rules, get_or, arith, length, to_z, of_z, w32}
use Rattle.std.proofs.Math.Facts.{to_z-of_z}
use Rattle.std.proofs.lemmas.Option.{slice_get-get_or}
use Rattle.fz_column.specs.declared.supports.Support.{Support}
use Rattle.fz_column.proofs.Walking.{up_to_more, one_more, end_at, end_last, added_passed, added_number}
use Rattle.fz_column.proofs.walk.add_numbers.Goals as goal

pub returns-then-support-high-clause-end : goal.returns-then-support-high-clause-end
returns-then-support-high-clause-end c =
    let xs = c.args.supports.now in
    let k = c.loop-end.end in
    let none : Support = record { number = pos 0; rows = record { word = 0; bits = 0 } } in
    let s = get_or xs k none in
    let at = slice_get-get_or xs k none c.loop-end-test.true in
    let here : c.args.high <ℤ s.number = search rules in
    end_at xs c.args.place c.args.high k s c.requires.order at here (rw (to_z-of_z c.ranges.high) at c.loop-end.invariant.up_to)

pub meets-requires : goal.meets-requires
meets-requires c =
    let xs = c.args.supports.now in
    let k = c.loop-end.end in
    let none : Support = record { number = pos 0; rows = record { word = 0; bits = 0 } } in
    let s = get_or xs k none in
    c.requires.sized s (k, slice_get-get_or xs k none c.loop-end-test.true)

pub loop-end-smaller-then-meets : goal.loop-end-smaller-then-meets
loop-end-smaller-then-meets c =
    let test = c.loop-end-test.true in
    let further = c.next_of-end.ensures.further in
    let smaller : length c.args.supports.now - c.next_of-end.result < length c.args.supports.now - c.loop-end.end = omega (arith, test, further) in
    smaller

pub loop-end-preserved-then-meets : goal.loop-end-preserved-then-meets
loop-end-preserved-then-meets c =
    let xs = c.args.supports.now in
    let k = c.loop-end.end in
    let none : Support = record { number = pos 0; rows = record { word = 0; bits = 0 } } in
    let s = get_or xs k none in
    let test = c.loop-end-test.true in
    let at = slice_get-get_or xs k none test in
    let end = c.next_of-end.result in
    let next = c.next_of-end.ensures in
    let low : s.number ≤ℤ c.args.high = search rules in
    let kept : to_z w32 (of_z w32 s.number) ≡ s.number = search rules in
    let up_to = rw (to_z-of_z c.ranges.high) at c.loop-end.invariant.up_to in
    record {
      up_to = rw (to_z-of_z c.ranges.high)
          (up_to_more xs c.args.place c.args.high k end s at low next.further next.inside (λ j t at_j past under. next.same j s t at at_j past under) up_to);
      added = added_number xs c.args.rows.now c.args.place c.args.numbers.now c.loop-end.numbers c.add.new.self k end s up_to.from next.further at (c.if-meets.ensures.0 refl)
          (rw kept at c.in_ok-add.ensures) (λ j t at_j past under. next.same j s t at at_j past under) c.loop-end.invariant.added;
    }

pub loop-end-preserved : goal.loop-end-preserved
loop-end-preserved c =
    let xs = c.args.supports.now in
    let k = c.loop-end.end in
    let none : Support = record { number = pos 0; rows = record { word = 0; bits = 0 } } in
    let s = get_or xs k none in
    let test = c.loop-end-test.true in
    let at = slice_get-get_or xs k none test in
    let low : s.number ≤ℤ c.args.high = search rules in
    let up_to = rw (to_z-of_z c.ranges.high) at c.loop-end.invariant.up_to in
    record {
      up_to = rw (to_z-of_z c.ranges.high) (up_to_more xs c.args.place c.args.high k (k + 1) s at low (omega arith) (omega (arith, test)) (one_more xs k s at) up_to);
      added = added_passed xs c.args.rows.now c.args.place c.args.numbers.now c.loop-end.numbers k s at (λ h. cc (c.if-meets.ensures.1 h)) c.loop-end.invariant.added;
    }

pub returns-clause-end : goal.returns-clause-end
returns-clause-end c =
    let test = c.loop-end-test.false in
    end_last c.args.supports.now c.args.place c.args.high c.loop-end.end (omega (arith, test)) (rw (to_z-of_z c.ranges.high) at c.loop-end.invariant.up_to)
