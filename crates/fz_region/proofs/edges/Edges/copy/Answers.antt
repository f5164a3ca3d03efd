use Rattle.std.proofs.Common.{◌∙◌, ◌++◌, List, ap₂, sym, subst}
use Rattle.std.specs.Arc.{arc_slice_items}
use Rattle.fz_tree.specs.Frontier.{Edge}
use Rattle.fz_region.specs.Pieces.{AreSettledTo}
use Rattle.fz_region.proofs.InPieces.{all_copied, copied_from, copied_pieces}
use Rattle.fz_region.proofs.edges.Edges.copy.Goals as goal

pub invariant_of-result : goal.invariant_of-result
invariant_of-result c =
    let old = c.self.inside.pieces.items in
    let new = c.in_ok-pieces.pieces.items in
    copied_pieces arc_slice_items old new c.self.inside.tail.items c.in_ok-tail.tail.items c.self.inside.settled c.self.inside.settled (copied_from arc_slice_items old c.deref.result.now new c.deref.ensures.value c.in_ok-pieces.ensures.items) c.self.invariant
    (subst (AreSettledTo c.self.inside.settled) (sym (c.in_ok-tail.ensures ∙ c.deref-2.ensures.value)) c.self.invariant.front)

pub returns : goal.returns
returns c =
    let old = c.self.inside.pieces.items in
    let new = c.in_ok-pieces.pieces.items in
    ap₂ (λ (front tail : List Edge). front ++ tail) (all_copied arc_slice_items old new (copied_from arc_slice_items old c.deref.result.now new c.deref.ensures.value c.in_ok-pieces.ensures.items)) (c.in_ok-tail.ensures ∙ c.deref-2.ensures.value)
    ∙ c.self.view_is
