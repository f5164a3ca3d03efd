use Rattle.std.proofs.Common.{◌≡◌, map, take}
use Rattle.fz_hall.specs.Lefts.{turn}
use Rattle.fz_hall.specs.Seats.{left}
use Rattle.fz_hall.proofs.seats.turned_seats.Given as goal

-- those so far
abbrev pub invariant-loop-seat : goal.invariant-loop-seat
invariant-loop-seat l = map left l.turned.items ≡ map turn (map left (take l.seat-index l.seats))
