use Rattle.std.proofs.Common.{pos, get_or, arith}
use Rattle.std.proofs.lemmas.Option.{slice_get-get_or}
use Rattle.fz_column.specs.declared.supports.Support.{Support}
use Rattle.fz_column.proofs.Packing.{width_none, width_more, width_same, width_all}
use Rattle.fz_column.proofs.packed.width_of.Goals as goal

pub loop-support-init : goal.loop-support-init
loop-support-init c = width_none c.args.supports.now

pub loop-support-preserved-then-support-width : goal.loop-support-preserved-then-support-width
loop-support-preserved-then-support-width c =
    let xs = c.args.supports.now in
    let k = c.loop-support.support-index in
    let none : Support = record { number = pos 0; rows = record { word = 0; bits = 0 } } in
    width_same xs c.loop-support.width k (get_or xs k none) (slice_get-get_or xs k none c.loop-support-test.true) c.if-support-width.true c.loop-support.invariant

pub loop-support-preserved : goal.loop-support-preserved
loop-support-preserved c =
    let xs = c.args.supports.now in
    let k = c.loop-support.support-index in
    let none : Support = record { number = pos 0; rows = record { word = 0; bits = 0 } } in
    rw c.in-Some.ensures.1 (width_more xs c.loop-support.width k (get_or xs k none) (slice_get-get_or xs k none c.loop-support-test.true) c.if-support-width.false c.loop-support.invariant)

pub returns-clause-sized : goal.returns-clause-sized
returns-clause-sized c =
    let past = c.loop-support-test.false in
    width_all c.args.supports.now c.loop-support.width c.loop-support.support-index (omega (arith, past)) c.loop-support.invariant

pub returns-clause-least : goal.returns-clause-least
returns-clause-least c = c.loop-support.invariant.least
