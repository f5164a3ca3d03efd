use Rattle.std.proofs.Common.{◌≡◌, get_or, arith, rules, to_z, of_z, w32}
use Rattle.std.specs.Prelude.{slice_get, Some, pos}
use Rattle.std.proofs.lemmas.Option.{slice_get-get_or}
use Rattle.fz_column.specs.declared.supports.Support.{Support}
use Rattle.fz_column.proofs.ByPlaces.{filled_none, filled_more, filled_all}
use Rattle.fz_column.proofs.dense.fill.Goals as goal

pub loop-support-init : goal.loop-support-init
loop-support-init c =
    let kept_base : to_z w32 (of_z w32 c.args.base) ≡ c.args.base = search rules in
    rw kept_base (filled_none c.args.base c.args.grid.now c.args.supports.now c.requires.whole c.requires.none)

pub loop-support-preserved : goal.loop-support-preserved
loop-support-preserved c =
    let column = c.args.supports.now in
    let k = c.loop-support.support-index in
    let none : Support = record { number = pos 0; rows = record { word = 0; bits = 0 } } in
    let s = get_or column k none in
    let at : slice_get column k ≡ Some s = slice_get-get_or column k none c.loop-support-test.true in
    let kept : to_z w32 (of_z w32 s.number) ≡ s.number = search rules in
    let kept_base : to_z w32 (of_z w32 c.args.base) ≡ c.args.base = search rules in
    let is = rw (kept, kept_base) at c.in-Some.ensures in
    rw kept_base (filled_more c.args.base c.loop-support.grid c.join.new.self column k s c.in-Some.place at is.0 is.1 (c.join.ensures.whole c.loop-support.invariant.whole)
    (c.join.ensures.rows c.if-not-join.false) (rw kept_base at c.loop-support.invariant))

pub returns-clause-rows : goal.returns-clause-rows
returns-clause-rows c = λ done.
    let past = c.loop-support-test.false in
    let kept_base : to_z w32 (of_z w32 c.args.base) ≡ c.args.base = search rules in
    filled_all c.args.base c.loop-support.grid c.args.supports.now c.loop-support.support-index (omega (arith, past)) (rw kept_base at c.loop-support.invariant)
