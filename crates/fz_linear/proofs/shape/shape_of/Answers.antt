use Rattle.std.proofs.Common.{refl}
use Rattle.std.proofs.Math.Facts.{to_z-of_z}
use Rattle.fz_linear.proofs.shape.shape_of.Goals as goal

pub returns-in-Some : goal.returns-in-Some
returns-in-Some c = rw (to_z-of_z c.ranges.number) at c.in-Some.ensures.some

pub returns-in-Some-plane_of : goal.returns-in-Some-plane_of
returns-in-Some-plane_of c = (
  rw (to_z-of_z c.ranges.number) at c.in-Some-plane_of.ensures,
  rw (to_z-of_z c.ranges.number) at (c.in_default.ensures.none refl),
)

pub returns-in-None : goal.returns-in-None
returns-in-None c = rw (to_z-of_z c.ranges.number) at (c.in_default.ensures.none refl)
