use Rattle.std.proofs.Common.{◌≡◌, ◌*◌, take}
use Rattle.std.specs.Arc.{arc_slice_items}
use Rattle.std.specs.List.{flat_map}
use Rattle.std.specs.Vec.{vec_len}
use Rattle.fz_region.specs.Pieces.{AreWhole}
use Rattle.fz_region.specs.declared.pieces.TheConstants.{PIECE}
use Rattle.fz_region.proofs.pieces.pieces_of.Given as goal

-- those so far stand in pieces
abbrev pub invariant-loop-i : goal.invariant-loop-i
invariant-loop-i l = (flat_map arc_slice_items l.pieces.items ≡ take (l.i * PIECE) l.edges) × AreWhole arc_slice_items l.pieces.items × (vec_len l.pieces ≡ l.i)
