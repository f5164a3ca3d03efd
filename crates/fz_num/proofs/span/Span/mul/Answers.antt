use Rattle.std.proofs.Common.{rules, ◌*ℤ◌}
use mir.Val.{SFits}
use mir.Syntax.{w128}
use Rattle.fz_num.proofs.Hulls.{product_hull, fits_product, at_low, at_high}
use Rattle.fz_num.proofs.span.Span.mul.Goals as goal

pub returns : goal.returns
returns c =
    let a = c.args.self in
    let b = c.args.other in
    let p : SFits w128 (a.lo *ℤ b.lo) = fits_product a b c.requires.left c.requires.right a.lo b.lo (at_low a) (at_low b) in
    let q : SFits w128 (a.lo *ℤ b.hi) = fits_product a b c.requires.left c.requires.right a.lo b.hi (at_low a) (at_high b) in
    let r : SFits w128 (a.hi *ℤ b.lo) = fits_product a b c.requires.left c.requires.right a.hi b.lo (at_high a) (at_low b) in
    let s : SFits w128 (a.hi *ℤ b.hi) = fits_product a b c.requires.left c.requires.right a.hi b.hi (at_high a) (at_high b) in
    product_hull a b _ _ _ _ _ (search rules) (search rules) (search rules) (search rules) c.around.ensures
