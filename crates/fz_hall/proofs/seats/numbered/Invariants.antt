use Rattle.std.proofs.Common.{◌≡◌, map, take}
use Rattle.fz_hall.specs.Seats.{left}
use Rattle.fz_hall.proofs.seats.numbered.Given as goal

-- those so far
abbrev pub invariant-loop-left : goal.invariant-loop-left
invariant-loop-left l = map left l.seats.items ≡ take l.left-index l.lefts
