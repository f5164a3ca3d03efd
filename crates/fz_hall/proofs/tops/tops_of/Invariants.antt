use Rattle.std.proofs.Common.{◌≡◌, length}
use Rattle.fz_hall.specs.Seats.{AreTops}
use Rattle.fz_hall.proofs.tops.tops_of.Given as goal

-- those so far
abbrev pub invariant-loop-place : goal.invariant-loop-place
invariant-loop-place l = record {
  tops : AreTops l.seats l.tops.items;
  size : length l.tops.items ≡ l.place;
}
