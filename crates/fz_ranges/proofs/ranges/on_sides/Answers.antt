use Rattle.std.proofs.Common.{Bool, sym, subst}
use Rattle.fz_ranges.specs.Ranges.{IsTurned}
use Rattle.fz_ranges.proofs.Sides.{sign_of, sized_by}
use Rattle.fz_ranges.proofs.ranges.on_sides.Goals as goal

pub returns : goal.returns
returns c = λ u w v is on_u on_w made.
    let sign = sign_of c.args.operation c.args.first c.args.second u w v c.requires.scaling on_u on_w made in
    let turned = subst (λ (t : Bool). IsTurned t v) (sym c.is_turned-is_below.ensures) sign in
    let in_u = c.side.ensures.side u is.0 on_u in
    let in_w = c.side-2.ensures.side w is.1 on_w in
    let in_v = c.turned_side.ensures.side v is.2 turned in
    c.all_sized.ensures u w v (in_u, in_w, in_v) (sized_by c.args.operation u w v made)
