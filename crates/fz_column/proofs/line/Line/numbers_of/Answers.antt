use Rattle.fz_column.proofs.Lines.{numbers_none, numbers_more, numbers_passed, numbers_all, shares, shares_none}
use Rattle.fz_column.proofs.line.Line.numbers_of.Goals as goal

pub numbers-init : goal.numbers-init
numbers-init c = numbers_none c.args.self.now c.args.numbers c.args.rows

pub numbers-preserved-then-common-ne0 : goal.numbers-preserved-then-common-ne0
numbers-preserved-then-common-ne0 c =
    let line = c.args.self.now in
    let p = c.lowest_bit-place.result in
    numbers_more line c.args.numbers c.args.rows c.numbers.left c.without_bit-left.result c.numbers.found c.with_bit-found.result p
    c.lowest_bit-place.ensures.place c.lowest_bit-place.ensures.bit c.without_bit-left.ensures.ones
    (shares line c.args.rows c.word.result c.common.result p c.word.ensures c.common.ensures c.if-common-ne0.true c.common.type_inv) c.with_bit-found.ensures c.numbers.invariant

pub numbers-preserved : goal.numbers-preserved
numbers-preserved c =
    let line = c.args.self.now in
    let p = c.lowest_bit-place.result in
    numbers_passed line c.args.numbers c.args.rows c.numbers.left c.without_bit-left.result c.numbers.found p c.lowest_bit-place.ensures.place c.without_bit-left.ensures.ones
    (shares_none line c.args.rows c.word.result c.common.result p c.word.ensures c.common.ensures c.if-common-ne0.false) c.numbers.invariant

pub returns : goal.returns
returns c = numbers_all c.args.self.now c.args.numbers c.args.rows c.numbers.left c.numbers.found c.numbers-test.false c.numbers.invariant
