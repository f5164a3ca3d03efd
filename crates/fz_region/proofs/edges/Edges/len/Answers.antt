use Rattle.std.proofs.Common.{length, ap, arith}
use Rattle.std.specs.Arc.{arc_slice_items}
use Rattle.fz_region.proofs.InPieces.{joined_length}
use Rattle.fz_region.proofs.edges.Edges.len.Goals as goal

pub returns : goal.returns
returns c =
    omega (arith, joined_length arc_slice_items c.self.inside.pieces.items c.self.inside.tail.items c.self.invariant.whole, ap length c.self.view_is)
