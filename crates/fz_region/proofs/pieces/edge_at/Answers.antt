use Rattle.std.proofs.Common.{◌∙◌, ◌%◌, List, get_or, ap}
use Rattle.std.specs.Arc.{arc_slice_items}
use Rattle.fz_tree.specs.Frontier.{Edge}
use Rattle.fz_region.specs.declared.pieces.TheConstants.{PIECE}
use Rattle.fz_region.proofs.InPieces.{read_in_piece}
use Rattle.fz_region.proofs.pieces.edge_at.Goals as goal

pub returns : goal.returns
returns c = λ tail.
    read_in_piece arc_slice_items c.args.pieces.now tail c.args.place c.index-pieces-place.result c.index-edges-place.result c.requires.whole c.requires.within c.index-pieces-place.is
    (c.index-edges-place.is ∙ ap (λ (l : List Edge). get_or l (c.args.place % PIECE) c.index-edges-place.result) c.as_slice-edges.ensures.value)
