use Rattle.fz_column.proofs.Lines.{rows_none, rows_more, rows_all}
use Rattle.fz_column.proofs.line.Line.rows_of.Goals as goal

pub numbers-init : goal.numbers-init
numbers-init c = rows_none c.args.self.now c.args.numbers

pub numbers-preserved : goal.numbers-preserved
numbers-preserved c =
    rows_more c.args.self.now c.args.numbers c.numbers.left c.without_bit-left.result c.numbers.rows c.word.result c.either-rows.result c.lowest_bit-place.result
    c.lowest_bit-place.ensures.place c.lowest_bit-place.ensures.bit c.without_bit-left.ensures.ones c.word.ensures c.either-rows.ensures c.numbers.invariant

pub returns : goal.returns
returns c = rows_all c.args.self.now c.args.numbers c.numbers.left c.numbers.rows c.numbers-test.false c.numbers.invariant
