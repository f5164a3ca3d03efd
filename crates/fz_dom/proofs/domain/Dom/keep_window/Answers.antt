use Rattle.std.proofs.Common.{subst, rules}
use Rattle.std.specs.Prelude.{ℤ}
use Rattle.std.proofs.Math.Facts.{to_z-of_z}
use mir.Val.{SFits}
use mir.Syntax.{w32}
use Rattle.fz_dom.specs.Places.{IsBit}
use Rattle.fz_dom.specs.Changes.{IsChange}
use Rattle.fz_dom.proofs.Changes.{change_as}
use Rattle.fz_dom.proofs.Windows.{own_in, in_own}
use Rattle.fz_dom.proofs.domain.Dom.keep_window.Goals as goal

pub keep_own-requires-clause-among : goal.keep_own-requires-clause-among
keep_own-requires-clause-among c = λ x m.
    let b = c.args.window.base in
    let fits : SFits w32 b = search rules in
    (own_in c.args.self.now b _ c.word_at-mine.result c.args.window.bits c.common.result (search rules) c.word_at-mine.ensures c.common.ensures x
    (subst (λ (y : ℤ). IsBit y c.common.result x) (to_z-of_z fits) m)).0

pub returns-clause-change : goal.returns-clause-change
returns-clause-change c =
    let b = c.args.window.base in
    let d = c.args.self.now in
    let fits : SFits w32 b = search rules in
    change_as c.keep_own.result (λ x. IsBit b c.common.result x) (λ x. IsBit b c.args.window.bits x) d c.keep_own.new.self
    (λ x i. (
      λ m. (own_in d b _ c.word_at-mine.result c.args.window.bits c.common.result (search rules) c.word_at-mine.ensures c.common.ensures x m).1,
      λ m. in_own d b _ c.word_at-mine.result c.args.window.bits c.common.result (search rules) c.word_at-mine.ensures c.common.ensures x i m,
    ))
    (subst (λ (y : ℤ). IsChange c.keep_own.result (λ x. IsBit y c.common.result x) d c.keep_own.new.self) (to_z-of_z fits) c.keep_own.ensures.change)
