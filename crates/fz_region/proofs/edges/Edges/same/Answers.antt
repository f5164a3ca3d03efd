use Rattle.std.proofs.Common.{arith}
use Rattle.std.specs.Arc.{arc_slice_items}
use Rattle.fz_region.proofs.InPieces.{same_behind, apart_behind}
use Rattle.fz_region.proofs.edges.Edges.same.Goals as goal

pub returns-then-same_edges : goal.returns-then-same_edges
returns-then-same_edges c =
    same_behind arc_slice_items c.self.inside.pieces.items c.other.inside.pieces.items c.deref-then-same_edges.result.now c.deref-then-same_edges-2.result.now c.self.inside.tail.items c.other.inside.tail.items c.deref.result.now c.deref-2.result.now
    c.args.self.now c.args.other.now c.same_pieces.result c.self.invariant.whole c.other.invariant.whole (omega (arith, c.if-len.false, c.len.ensures, c.len-2.ensures)) c.self.view_is c.other.view_is c.deref.ensures.value c.deref-2.ensures.value
    (c.same_edges.ensures.0 c.if-same_edges.true) c.deref-then-same_edges.ensures.value c.deref-then-same_edges-2.ensures.value c.same_pieces.ensures

pub returns-else-same_edges : goal.returns-else-same_edges
returns-else-same_edges c =
    apart_behind arc_slice_items c.self.inside.pieces.items c.other.inside.pieces.items c.self.inside.tail.items c.other.inside.tail.items c.deref.result.now c.deref-2.result.now
    c.args.self.now c.args.other.now c.same_edges.result c.self.invariant.whole c.other.invariant.whole (omega (arith, c.if-len.false, c.len.ensures, c.len-2.ensures)) c.self.view_is c.other.view_is c.deref.ensures.value c.deref-2.ensures.value
    c.if-same_edges.false c.same_edges.ensures
