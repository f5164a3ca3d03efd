use Rattle.std.proofs.Common.{◌≡◌, length, ◌-◌}
use Rattle.fz_column.specs.Packed.{IsWhole}
use Rattle.fz_column.proofs.Packing.{ArePackedBelow}
use Rattle.fz_column.proofs.packed.Packed.fill.Given as goal

-- the supports so far are packed
abbrev pub invariant-loop-place : goal.invariant-loop-place
invariant-loop-place l = record {
  whole : IsWhole l.self;
  width : l.self.width ≡ l.initial.self.width;
  size : length l.rows ≡ l.initial.self.width;
  rows : ArePackedBelow l.supports l.self l.place;
}

abbrev pub decreases-loop-place : goal.decreases-loop-place
decreases-loop-place l = length l.supports - l.place
