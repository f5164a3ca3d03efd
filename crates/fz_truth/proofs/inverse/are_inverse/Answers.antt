use Rattle.std.proofs.Common.{refl}
use Rattle.fz_truth.proofs.inverse.are_inverse.Goals as goal

pub returns-then-point_back : goal.returns-then-point_back
returns-then-point_back c = (λ t. record { there = c.if-point_back.ensures.0 refl; back = c.point_back-then-point_back.ensures.0 t }, λ h. c.point_back-then-point_back.ensures.1 h.back)

pub returns-else-point_back : goal.returns-else-point_back
returns-else-point_back c = (λ t. cc, λ h. let t = c.if-point_back.ensures.1 h.there in cc)
