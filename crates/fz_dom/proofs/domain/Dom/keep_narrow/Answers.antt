use Rattle.std.proofs.Common.{◌≡◌, pos, subst, arith, rules}
use Rattle.std.specs.Prelude.{ℤ, ◌-ℤ◌}
use Rattle.std.proofs.lemmas.Int.{ints}
use Rattle.std.proofs.Math.Facts.{to_z-of_z}
use mir.Val.{SFits}
use mir.Syntax.{w32}
use Rattle.fz_sets.specs.Sets.{IsInSet}
use Rattle.fz_dom.specs.Places.{IsBit}
use Rattle.fz_dom.proofs.Changes.{change_as}
use Rattle.fz_dom.proofs.Kept.{limits_of}
use Rattle.fz_dom.proofs.Windows.{moved_word}
use Rattle.fz_dom.proofs.domain.Dom.keep_narrow.Goals as goal

pub returns-clause-change : goal.returns-clause-change
returns-clause-change c =
    let d = c.args.self.now in
    let o = c.args.other.now in
    let r = c.window_base-base.ensures in
    let b = c.window_base-base.result in
    let bits = c.word_at-bits.result in
    let fits : SFits w32 b = search rules in
    change_as c.keep_window.result (λ x. IsBit b bits x) (λ x. IsInSet o (x -ℤ c.args.shift)) d c.keep_window.new.self
    (λ x i. moved_word o b _ c.args.shift x bits (search rules) c.word_at-bits.ensures (λ j.
    let s : x ≡ (x -ℤ pos 0) = omega (arith, ints) in
    r.window x (limits_of d x r.domain i) (subst (λ (y : ℤ). IsInSet d y) s i))) (rw (to_z-of_z fits) at c.keep_window.ensures.change)
