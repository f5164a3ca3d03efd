use Rattle.std.proofs.Common.{take}
use Rattle.std.specs.Prelude.{◌≤ℤ◌}
use Rattle.std.specs.List.{AllByRecursion}
use Rattle.fz_hall.specs.declared.seats.Seat.{Seat}
use Rattle.fz_hall.specs.Seats.{AreSeated}
use Rattle.fz_hall.proofs.seats.are_seated.Given as goal

-- so it is of those so far, and none has a lesser number than the last
abbrev pub invariant-loop-seat : goal.invariant-loop-seat
invariant-loop-seat l = record {
  seated : AreSeated (take l.seat-index l.seats);
  from : AllByRecursion (λ (r : Seat). l.before ≤ℤ r.number) (take l.seat-index l.seats);
}
