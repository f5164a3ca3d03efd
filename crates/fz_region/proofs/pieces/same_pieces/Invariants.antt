use Rattle.std.proofs.Common.{◌≡◌, map, take}
use Rattle.std.specs.Arc.{arc_slice_items}
use Rattle.fz_region.proofs.pieces.same_pieces.Given as goal

-- those so far are the same
abbrev pub invariant-loop-i : goal.invariant-loop-i
invariant-loop-i l = take l.i (map arc_slice_items l.these) ≡ take l.i (map arc_slice_items l.those)
