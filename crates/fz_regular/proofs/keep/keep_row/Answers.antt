use Rattle.std.proofs.lemmas.Result.{IfOk-weaker}
use Rattle.fz_dom.specs.declared.change.Change.{Change}
use Rattle.fz_prop.specs.Stores.{IsTermChange}
use Rattle.fz_regular.specs.Runs.{IsInRow}
use Rattle.fz_regular.proofs.Keeping.{term_change_as}
use Rattle.fz_regular.proofs.Numbers.{window_row}
use Rattle.fz_regular.proofs.keep.keep_row.Goals as goal

pub returns-then-supports-eq1-clause-change : goal.returns-then-supports-eq1-clause-change
returns-then-supports-eq1-clause-change c =
    let b = c.args.supports.now in
    let row = c.args.row in
    let s = c.args.store.now in
    let u = c.keep_window.new.store in
    let t = c.args.term in
    IfOk-weaker c.keep_window.result _ (λ (r : Change). IsTermChange r t (IsInRow b row) s u)
    (λ r h. term_change_as r t _ (IsInRow b row) s u (window_row b row c.word-bits.result c.if-supports-eq1.true c.word-bits.ensures) h) c.keep_window.ensures.change

pub returns-clause-change : goal.returns-clause-change
returns-clause-change c =
    let b = c.args.supports.now in
    let row = c.args.row in
    let s = c.args.store.now in
    let u = c.keep_in.new.store in
    let t = c.args.term in
    IfOk-weaker c.keep_in.result _ (λ (r : Change). IsTermChange r t (IsInRow b row) s u)
    (λ r h. term_change_as r t _ (IsInRow b row) s u c.in_ok-numbers.ensures h) c.keep_in.ensures.change
