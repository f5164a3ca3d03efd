use Rattle.std.proofs.Common.{◌≡◌, ◌<◌, ◌≤◌, ◌+◌, ◌∙◌, length, get_or, refl, arith, rules}
use Rattle.fz_column.proofs.Grids.{kept_none, kept_passed, kept_more, kept_all, kept_every}
use Rattle.fz_column.proofs.grid.Grid.keep.Goals.{then-rows-word-ne0, else-rows-word-ne0}
use Rattle.fz_column.proofs.grid.Grid.keep.Goals as goal

pub loop-word-init : goal.loop-word-init
loop-word-init c = kept_none c.args.self.now c.args.numbers c.args.rows.now

pub loop-word-preserved : goal.loop-word-preserved
loop-word-preserved c =
    let grid = c.args.self.now in
    let old = c.args.rows.now in
    let rows = c.loop-word.rows in
    let k = c.loop-word.word in
    let size = c.loop-word.invariant.size in
    let test = c.loop-word-test.true in
    let inside : k < length rows = omega (arith, size, test) in
    elim c.if-rows-word-ne0.branch [
      | then-rows-word-ne0 w ↦
          rw w.rows-is
          (kept_more grid c.args.numbers old rows k (get_or rows k 0) w.rows_at.result w.common-then-rows-word-ne0.result c.requires.whole inside refl
          w.rows_at.ensures w.common-then-rows-word-ne0.ensures c.loop-word.invariant)
      | else-rows-word-ne0 w ↦
          let none : get_or rows k 0 ≡ 0 = search rules in
          rw w.rows-is (kept_passed grid c.args.numbers old rows k none c.loop-word.invariant)
    ]

pub returns-clause-rows : goal.returns-clause-rows
returns-clause-rows c =
    let size = c.loop-word.invariant.size in
    let past = c.loop-word-test.false in
    kept_all c.args.self.now c.args.numbers c.args.rows.now c.loop-word.rows c.loop-word.word (omega (arith, size, past)) c.loop-word.invariant

pub returns-then-common-self-clause-rows : goal.returns-then-common-self-clause-rows
returns-then-common-self-clause-rows c =
    kept_every c.args.self.now c.args.numbers c.common.result c.args.rows.now c.requires.whole c.requires.each c.common.ensures c.if-common-self.true
