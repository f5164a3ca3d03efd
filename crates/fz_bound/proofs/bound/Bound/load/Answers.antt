use Rattle.std.proofs.Common.{◌∙◌, sym, ap, arith}
use Rattle.fz_bound.specs.Seats.{Seated}
use Rattle.fz_bound.proofs.Keeping.{loads}
use Rattle.fz_bound.proofs.bound.Bound.load.Goals as goal

pub load-requires : goal.load-requires
load-requires c = (
  ap (λ (s : Seated). s.bound) c.seat.view_is ∙ c.requires ∙ sym c.self.view_is,
  rw c.self.invariant.0 (omega arith),
  rw c.seat.invariant.0 (loads c.self.inside.table.shared.table_id.slots c.seat.inside.seat.id c.seat.inside.seat.me.0 c.seat.invariant.1),
)
