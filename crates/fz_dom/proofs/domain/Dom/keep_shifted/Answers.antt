use Rattle.std.proofs.Common.{subst}
use Rattle.std.specs.Prelude.{ℤ, ◌-ℤ◌, ◌↔◌}
use Rattle.std.proofs.Math.Facts.{to_z-of_z}
use Rattle.fz_sets.specs.Sets.{IsInSet}
use Rattle.fz_dom.specs.Places.{IsBit}
use Rattle.fz_dom.proofs.Changes.{change_as}
use Rattle.fz_dom.proofs.Kept.{limits_of}
use Rattle.fz_dom.proofs.domain.Dom.keep_shifted.Goals as goal

pub returns-in-Some-clause-change : goal.returns-in-Some-clause-change
returns-in-Some-clause-change c =
    let d = c.args.self.now in
    let o = c.args.other.now in
    let w = c.in-Some.window in
    change_as c.keep_window.result (λ x. IsBit w.base w.bits x) (λ x. IsInSet o (x -ℤ c.args.shift)) d c.keep_window.new.self
    (λ x i. subst (λ (s : ℤ). IsBit w.base w.bits x ↔ IsInSet o (x -ℤ s)) (to_z-of_z c.ranges.shift) (c.in-Some.ensures.numbers x (limits_of d x c.is_narrow-narrow.ensures.domain i)))
    c.keep_window.ensures.change
