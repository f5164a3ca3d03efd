use Rattle.std.proofs.Common.{ap, ◌∙◌, sym}
use Rattle.std.specs.Arc.{arc_slice_items}
use Rattle.std.specs.List.{flat_map, list_any}
use Rattle.fz_tree.specs.Frontier.{edge_has_rest}
use Rattle.fz_region.proofs.AtPlace.{some_deepest}
use Rattle.fz_region.proofs.Settled.{any_past}
use Rattle.fz_region.proofs.edges.Edges.has_rest.Goals as goal

pub returns : goal.returns
returns c =
    c.is_some.ensures ∙ some_deepest c.deref.result.now c.deepest.result c.deepest.ensures ∙ ap (list_any edge_has_rest) c.deref.ensures.value
    ∙ sym (any_past (flat_map arc_slice_items c.self.inside.pieces.items) c.self.inside.tail.items c.self.invariant.settled)
    ∙ ap (list_any edge_has_rest) c.self.view_is
