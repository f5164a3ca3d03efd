use Rattle.std.proofs.Common.{◌≡◌, ◌∙◌, refl}
use Rattle.std.proofs.Math.Facts.{to_z-of_z}
use Rattle.fz_dom.proofs.Windows.{list_is, part_from, part_change}
use Rattle.fz_dom.proofs.domain.Dom.keep_wide.Goals as goal

pub returns-clause-change : goal.returns-clause-change
returns-clause-change c =
    let d = c.args.self.now in
    let o = c.args.other.now in
    let h = c.other.inside.head in
    let rest = c.other.inside.rest.items in
    let kept = c.in_ok-ranges.ranges.items in
    let e : rest ≡ o = list_is h rest o c.other.invariant c.other.view_is c.requires.other_wide c.requires.several in
    part_change c.keep_ranges.result d o c.keep_ranges.new.self kept c.args.shift
    (part_from c.as_slice.result.now o d d kept _ c.args.shift (c.as_slice.ensures ∙ e) refl (to_z-of_z c.ranges.shift) c.in_ok-ranges.ensures.part)
    c.keep_ranges.ensures.change
