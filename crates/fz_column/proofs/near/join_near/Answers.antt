use Rattle.std.proofs.Common.{◌<◌, ◌-◌, ℕ, sym, subst, pos, rules, get_or, arith, length}
use Rattle.std.proofs.Math.Facts.{to_z-of_z}
use Rattle.std.proofs.lemmas.Option.{slice_get-get_or}
use mir.Val.{SFits}
use mir.Syntax.{w32}
use Rattle.fz_bits.specs.Windows.{IsBit}
use Rattle.fz_column.specs.declared.supports.Support.{Support}
use Rattle.fz_column.proofs.Windowed.{rows_none, rows_joined, rows_passed, rows_all}
use Rattle.fz_column.proofs.near.join_near.Goals as goal

pub loop-place-init : goal.loop-place-init
loop-place-init c = rows_none c.args.supports.now (λ n. IsBit c.args.window.base c.args.window.bits n) c.args.rows.now

pub join-requires : goal.join-requires
join-requires c =
    let xs = c.args.supports.now in
    let k = c.loop-place.place in
    let none : Support = record { number = pos 0; rows = record { word = 0; bits = 0 } } in
    let s = get_or xs k none in
    subst (λ (size : ℕ). s.rows.word < size) (sym c.loop-place.invariant.size) (c.requires.sized s (k, slice_get-get_or xs k none c.loop-place-test.true))

pub loop-place-preserved-then-has : goal.loop-place-preserved-then-has
loop-place-preserved-then-has c =
    let xs = c.args.supports.now in
    let k = c.loop-place.place in
    let none : Support = record { number = pos 0; rows = record { word = 0; bits = 0 } } in
    let s = get_or xs k none in
    let at = slice_get-get_or xs k none c.loop-place-test.true in
    let fits : SFits w32 s.number = search rules in
    rows_joined xs (λ n. IsBit c.args.window.base c.args.window.bits n) c.args.rows.now c.loop-place.rows c.join.new.rows k s at
    ((rw (to_z-of_z fits) at c.has.ensures).0 c.if-has.true) c.join.ensures.members c.join.ensures.size c.loop-place.invariant

pub loop-place-smaller : goal.loop-place-smaller
loop-place-smaller c =
    let test = c.loop-place-test.true in
    let further = c.next_of-place.ensures.further in
    let smaller : length c.args.supports.now - c.next_of-place.result < length c.args.supports.now - c.loop-place.place = omega (arith, test, further) in
    smaller

pub loop-place-preserved : goal.loop-place-preserved
loop-place-preserved c =
    let xs = c.args.supports.now in
    let k = c.loop-place.place in
    let none : Support = record { number = pos 0; rows = record { word = 0; bits = 0 } } in
    let s = get_or xs k none in
    let test = c.loop-place-test.true in
    let at = slice_get-get_or xs k none test in
    let fits : SFits w32 s.number = search rules in
    let has = rw (to_z-of_z fits) at c.has.ensures in
    rows_passed xs (λ n. IsBit c.args.window.base c.args.window.bits n) c.args.rows.now c.loop-place.rows k c.next_of-place.result s c.next_of-place.ensures at
    (λ is. absurd (let yes = has.1 is in let no = c.if-has.false in cc (yes, no))) c.loop-place.invariant

pub returns-clause-rows : goal.returns-clause-rows
returns-clause-rows c =
    let past = c.loop-place-test.false in
    rows_all c.args.supports.now (λ n. IsBit c.args.window.base c.args.window.bits n) c.args.rows.now c.loop-place.rows c.loop-place.place (omega (arith, past)) c.loop-place.invariant
