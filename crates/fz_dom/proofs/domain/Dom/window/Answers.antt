use Rattle.std.proofs.Common.{subst, sym, rules}
use Rattle.std.specs.Prelude.{ℤ, ◌-ℤ◌}
use Rattle.std.proofs.Math.Facts.{to_z-of_z}
use mir.Val.{SFits}
use mir.Syntax.{w32}
use Rattle.fz_sets.specs.Sets.{IsInSet}
use Rattle.fz_dom.proofs.Windows.{moved_word}
use Rattle.fz_dom.proofs.domain.Dom.window.Goals as goal

pub returns-clause-numbers : goal.returns-clause-numbers
returns-clause-numbers c = λ x within.
    let d = c.args.self.now in
    let fits : SFits w32 c.window_base-base.result = search rules in
    rw (to_z-of_z fits) (moved_word d c.window_base-base.result _ c.args.shift x c.word_at-bits.result (search rules) c.word_at-bits.ensures
    (λ i. c.window_base-base.ensures.window x within (subst (λ (s : ℤ). IsInSet d (x -ℤ s)) (sym (to_z-of_z c.ranges.shift)) i)))
