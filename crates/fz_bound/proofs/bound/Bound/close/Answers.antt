use Rattle.std.proofs.Common.{◌∙◌, ap}
use Rattle.fz_bound.specs.Seats.{Seated}
use Rattle.fz_bound.proofs.Keeping.{closes}
use Rattle.fz_bound.proofs.bound.Bound.close.Goals as goal

pub returns : goal.returns
returns c all =
    let end = c.close_with-closed.ensures.values.2 in
    closes c.seat.inside.seat.id c.seat.inside.seat.me.0 _ c.word-word.result end.0 end.1 end.2 c.word-word.ensures c.seat.invariant.2 (ap (λ (s : Seated). s.parts) c.seat.view_is ∙ all) ∙ ap (λ (s : Seated). s.least) c.seat.view_is
