use Rattle.std.proofs.Common.{◌≡◌, subst, rules}
use Rattle.std.specs.Prelude.{ℤ, ◌-ℤ◌}
use Rattle.std.proofs.Math.Facts.{to_z-of_z}
use Rattle.fz_sets.specs.Sets.{IsInSet}
use Rattle.fz_dom.specs.Changes.{IsChange}
use Rattle.fz_dom.specs.Shape.{least, greatest}
use Rattle.fz_dom.specs.declared.change.Change.TheVariants.{Changed}
use Rattle.fz_prop.specs.Cuts.{change_level}
use Rattle.fz_prop.proofs.cut.cut_to.Goals as goal

pub returns-in-Changed-clause-cut : goal.returns-in-Changed-clause-cut
returns-in-Changed-clause-cut c =
    let fits = c.ranges.shift in
    let level : c.level_since.result ≡ change_level (least c.args.dom.now) (greatest c.args.dom.now) c.keep_shifted.new.self = search rules in (
      subst (λ (k : ℤ). IsChange Changed (λ x. IsInSet c.args.other.now (x -ℤ k)) c.args.dom.now c.keep_shifted.new.self) (to_z-of_z fits) (rw c.in-Changed.is at c.in_ok-change.ensures.change),
      level,
    )
