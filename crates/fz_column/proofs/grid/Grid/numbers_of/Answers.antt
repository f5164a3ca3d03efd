use Rattle.std.proofs.Common.{◌+◌, ◌≤◌, refl, arith, get_or}
use Rattle.fz_column.proofs.Grids.{found_none, found_passed, found_more, found_all, found_every}
use Rattle.fz_column.proofs.grid.Grid.numbers_of.Goals as goal

pub loop-word-init : goal.loop-word-init
loop-word-init c = found_none c.args.self.now c.args.numbers c.args.rows.now

pub loop-word-preserved-then-bits-eq0 : goal.loop-word-preserved-then-bits-eq0
loop-word-preserved-then-bits-eq0 c = found_passed c.args.self.now c.args.numbers c.args.rows.now c.loop-word.word c.loop-word.found c.if-bits-eq0.true c.loop-word.invariant

pub loop-word-preserved : goal.loop-word-preserved
loop-word-preserved c =
    let rows = c.args.rows.now in
    let k = c.loop-word.word in
    found_more c.args.self.now c.args.numbers rows k (get_or rows k 0) c.without-missing.result c.numbers_at.result c.loop-word.found c.either-found.result refl
    c.without-missing.ensures c.numbers_at.ensures c.either-found.ensures c.loop-word.invariant

pub returns-then-found-numbers : goal.returns-then-found-numbers
returns-then-found-numbers c =
    let rows = c.args.rows.now in
    let k = c.loop-word.word in
    found_every c.args.self.now c.args.numbers rows (k + 1) c.either-found.result c.if-found-numbers.true
    (found_more c.args.self.now c.args.numbers rows k (get_or rows k 0) c.without-missing.result c.numbers_at.result c.loop-word.found c.either-found.result refl
    c.without-missing.ensures c.numbers_at.ensures c.either-found.ensures c.loop-word.invariant)

pub returns : goal.returns
returns c =
    let past = c.loop-word-test.false in
    found_all c.args.self.now c.args.numbers c.args.rows.now c.loop-word.word c.loop-word.found (omega (arith, past)) c.loop-word.invariant
