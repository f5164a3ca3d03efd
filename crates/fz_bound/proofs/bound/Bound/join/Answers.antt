use Rattle.std.proofs.Common.{◌∙◌, sym, ap, arith}
use Rattle.fz_bound.specs.Seats.{Seated}
use Rattle.fz_bound.proofs.Keeping.{joins}
use Rattle.fz_bound.proofs.bound.Bound.join.Goals as goal

pub join_seat-requires : goal.join_seat-requires
join_seat-requires c = (
  ap (λ (s : Seated). s.bound) c.seat.view_is ∙ c.requires.seat ∙ sym c.self.view_is,
  ap (λ (s : Seated). s.bound) c.other.view_is ∙ c.requires.other ∙ sym c.self.view_is,
  c.other.invariant.0,
  rw c.self.invariant.0 (omega arith),
  joins c.seat.inside.seat.id c.other.inside.seat.id c.seat.inside.seat.me.0 c.other.inside.seat.me.0 c.seat.invariant.1,
)
