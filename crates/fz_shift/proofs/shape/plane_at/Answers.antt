use Rattle.std.proofs.Common.{rules, w32}
use Rattle.std.proofs.Math.Facts.{to_z-of_z}
use mir.Val.{SFits}
use Rattle.fz_shift.specs.declared.plane.Plane.{Plane}
use Rattle.fz_shift.specs.Planes.{AreApart, IsSmall}
use Rattle.fz_shift.proofs.Shapes.{plane_of_sum}
use Rattle.fz_shift.proofs.shape.plane_at.Goals as goal

pub returns : goal.returns
returns c =
    let fits : SFits w32 c.args.across.factor = search rules in
    let fits_n : SFits w32 c.args.number = c.ranges.number in
    let p : Plane = record { across = c.in-Var-Var-Var.across; first = c.in-Var-Var-Var.first; second = c.in-Var-Var-Var.second; factor = c.args.across.factor; number = c.args.number } in
    let small : IsSmall p = record { least = search rules; most = search rules; number = search rules } in
    let apart : AreApart p = record { first = search rules; second = search rules; others = search rules } in
    rw (c.in-Var-Var-Var.is-0, c.in-Var-Var-Var.is-1, c.in-Var-Var-Var.is-2, to_z-of_z fits, to_z-of_z fits_n) (plane_of_sum p small apart)
