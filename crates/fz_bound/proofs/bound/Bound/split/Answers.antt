use Rattle.std.proofs.Common.{◌≤◌, ◌∙◌, sym, ap, subst, arith}
use Rattle.fz_bound.specs.Seats.{Seated}
use Rattle.fz_bound.proofs.Keeping.{splits}
use Rattle.fz_bound.proofs.bound.Bound.split.Goals as goal

pub split_seat-requires : goal.split_seat-requires
split_seat-requires c = (
  ap (λ (s : Seated). s.bound) c.seat.view_is ∙ c.requires.seat ∙ sym c.self.view_is,
  rw c.self.invariant.0 (omega arith),
  splits c.seat.inside.seat.id c.seat.inside.seat.me.0 (subst (λ (s : Seated). 2 ≤ s.parts) (sym c.seat.view_is) c.requires.parts),
)
