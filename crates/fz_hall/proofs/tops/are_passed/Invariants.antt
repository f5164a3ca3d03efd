use Rattle.std.proofs.Common.{take}
use Rattle.std.specs.List.{AllByRecursion}
use Rattle.fz_hall.specs.Seats.{IsPassed}
use Rattle.fz_hall.proofs.tops.are_passed.Given as goal

-- those so far
abbrev pub invariant-loop-place : goal.invariant-loop-place
invariant-loop-place l = AllByRecursion (IsPassed l.seats) (take l.place l.seats)
