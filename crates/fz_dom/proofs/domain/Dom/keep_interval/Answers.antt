use Rattle.std.proofs.Common.{◌≡◌, to_z, of_z, w32, rules}
use Rattle.std.specs.Prelude.{◌-ℤ◌}
use Rattle.std.proofs.Math.Facts.{to_z-of_z}
use Rattle.fz_sets.specs.Sets.{IsInSet}
use Rattle.fz_dom.specs.Changes.{IsFromTo}
use Rattle.fz_dom.specs.Shape.{least, greatest}
use Rattle.fz_dom.proofs.Changes.{change_as}
use Rattle.fz_dom.proofs.Kept.{limits_of}
use Rattle.fz_dom.proofs.Windows.{moved_interval}
use Rattle.fz_dom.proofs.domain.Dom.keep_interval.Goals as goal

pub returns-clause-change : goal.returns-clause-change
returns-clause-change c =
    let d = c.args.self.now in
    let o = c.args.other.now in
    let fits = c.ranges.shift in
    let a = to_z w32 (of_z w32 c.moved-low.result) in
    let b = to_z w32 (of_z w32 c.moved-high.result) in
    let ea : a ≡ c.moved-low.result = search rules in
    let eb : b ≡ c.moved-high.result = search rules in
    let ev : to_z w32 (of_z w32 c.min.result) ≡ least o = search rules in
    let eu : to_z w32 (of_z w32 c.max.result) ≡ greatest o = search rules in
    change_as c.keep_range.result (λ x. IsFromTo a b x) (λ x. IsInSet o (x -ℤ c.args.shift)) d c.keep_range.new.self
    (λ x i. let w = limits_of d x c.keep_range.ensures.old_domain i in
    moved_interval o (least o) (greatest o) c.args.shift a b x c.moved-low.result c.moved-high.result _ _ _ _ c.requires.one ea eb ev eu (to_z-of_z fits) (to_z-of_z fits)
    (c.moved-low.ensures.low x w) (c.moved-high.ensures.high x w)) c.keep_range.ensures.change
