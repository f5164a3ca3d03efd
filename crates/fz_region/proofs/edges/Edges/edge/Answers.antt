use Rattle.std.proofs.Common.{◌∙◌, ◌*◌, List, length, get_or, ap, arith}
use Rattle.std.specs.Arc.{arc_slice_items}
use Rattle.fz_tree.specs.Frontier.{Edge}
use Rattle.fz_region.specs.declared.pieces.TheConstants.{PIECE}
use Rattle.fz_region.proofs.InPieces.{joined_length, read_in_tail}
use Rattle.fz_region.proofs.edges.Edges.edge.Goals as goal

pub index-requires : goal.index-requires
index-requires c =
    omega (arith, joined_length arc_slice_items c.self.inside.pieces.items c.self.inside.tail.items c.self.invariant.whole, ap length c.self.view_is)

pub returns : goal.returns
returns c =
    read_in_tail arc_slice_items c.self.inside.pieces.items c.self.inside.tail.items (c.len-shared.result * PIECE) c.args.place c.index.result.now c.self.invariant.whole (omega (arith, c.len-shared.ensures)) c.if-place-shared.false c.index.ensures
    ∙ ap (λ (es : List Edge). get_or es c.args.place c.index.result.now) c.self.view_is
