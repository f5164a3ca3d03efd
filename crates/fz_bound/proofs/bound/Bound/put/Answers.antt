use Rattle.std.proofs.Common.{◌∙◌, sym, ap, arith}
use Rattle.fz_bound.specs.Seats.{Seated}
use Rattle.fz_bound.proofs.Keeping.{puts}
use Rattle.fz_bound.proofs.bound.Bound.put.Goals as goal

pub fetch_min-requires : goal.fetch_min-requires
fetch_min-requires c = (
  ap (λ (s : Seated). s.bound) c.seat.view_is ∙ c.requires.seat ∙ sym c.self.view_is,
  rw c.self.invariant.0 (omega arith),
  rw c.seat.invariant.0 (puts c.self.inside.table.shared.table_id.slots c.seat.inside.seat.id c.seat.inside.seat.me.0 c.args.number c.seat.invariant.1),
)
