use Rattle.std.proofs.Common.{◌∙◌, ◌++◌, List, map, ap, ap₂, sym, subst}
use Rattle.std.specs.Arc.{arc_slice_items}
use Rattle.std.specs.List.{flat_map}
use Rattle.fz_tree.specs.Frontier.{Edge, AreEdges, settled_edge}
use Rattle.fz_region.proofs.InPieces.{all_copied, copied_from, copied_pieces}
use Rattle.fz_region.proofs.Settled.{all_closed, closed_past}
use Rattle.fz_region.proofs.edges.Edges.settled.Goals as goal

pub invariant_of-result : goal.invariant_of-result
invariant_of-result c =
    let old = c.self.inside.pieces.items in
    let new = c.in_ok-pieces.pieces.items in
    copied_pieces arc_slice_items old new c.self.inside.tail.items c.in_ok-tail.tail.items c.self.inside.settled c.len-settled.result (copied_from arc_slice_items old c.deref.result.now new c.deref.ensures.value c.in_ok-pieces.ensures.items) c.self.invariant
    (all_closed c.deref-2.result.now c.in_ok-tail.tail.items c.len-settled.result c.in_ok-tail.ensures (c.len-settled.ensures ∙ c.in_ok-tail.tail.ok.0))

pub returns : goal.returns
returns c =
    let old = c.self.inside.pieces.items in
    let new = c.in_ok-pieces.pieces.items in
    let front = flat_map arc_slice_items old in
    ap₂ (λ (front tail : List Edge). front ++ tail) (all_copied arc_slice_items old new (copied_from arc_slice_items old c.deref.result.now new c.deref.ensures.value c.in_ok-pieces.ensures.items)) (c.in_ok-tail.ensures ∙ ap (map settled_edge) c.deref-2.ensures.value)
    ∙ sym (closed_past front c.self.inside.tail.items (subst AreEdges (sym c.self.view_is) c.requires) c.self.invariant.settled) ∙ ap (map settled_edge) c.self.view_is
