use Rattle.std.proofs.Common.{rules}
use Rattle.std.specs.Prelude.{int_div}
use mir.Val.{SFits}
use mir.Syntax.{w128}
use Rattle.fz_num.proofs.Hulls.{quotient_hull, fits_quotient, at_low, at_high}
use Rattle.fz_num.proofs.span.Span.quotients.Goals as goal

pub returns : goal.returns
returns c =
    let a = c.args.self in
    let b = c.args.divisor in
    let p : SFits w128 (int_div a.lo b.lo) = fits_quotient a c.requires.small a.lo b.lo (at_low a) in
    let q : SFits w128 (int_div a.lo b.hi) = fits_quotient a c.requires.small a.lo b.hi (at_low a) in
    let r : SFits w128 (int_div a.hi b.lo) = fits_quotient a c.requires.small a.hi b.lo (at_high a) in
    let s : SFits w128 (int_div a.hi b.hi) = fits_quotient a c.requires.small a.hi b.hi (at_high a) in
    quotient_hull a b _ _ _ _ _ c.requires.sign (search rules) (search rules) (search rules) (search rules) c.around.ensures
