use Rattle.std.proofs.Common.{◌≡◌, ◌∙◌, ◌++◌, List, ap, ap₂, sym, subst}
use Rattle.std.specs.Prelude.{IfSome}
use Rattle.std.specs.Arc.{arc_slice_items}
use Rattle.std.specs.List.{flat_map}
use Rattle.fz_tree.specs.Frontier.{Edge, cut_part}
use Rattle.fz_region.specs.Pieces.{AreSettledTo}
use Rattle.fz_region.proofs.InPieces.{all_copied, copied_from, copied_pieces}
use Rattle.fz_region.proofs.Settled.{part_past, settled_part}
use Rattle.fz_region.proofs.edges.Edges.cut.Goals as goal

pub invariant_of-result : goal.invariant_of-result
invariant_of-result c =
    let old = c.self.inside.pieces.items in
    let new = c.in_ok-pieces.pieces.items in
    let part : c.in-Some.tail.items ≡ cut_part c.deref.result.now = subst (λ o. IfSome o (λ v. v.items ≡ cut_part c.deref.result.now)) c.in-Some.is c.in_ok-tail.ensures.part in
    copied_pieces arc_slice_items old new c.self.inside.tail.items c.in-Some.tail.items c.self.inside.settled c.self.inside.settled (copied_from arc_slice_items old c.deref-2.result.now new c.deref-2.ensures.value c.in_ok-pieces.ensures.items) c.self.invariant
    (subst (AreSettledTo c.self.inside.settled) (sym (part ∙ ap cut_part c.deref.ensures.value)) (settled_part c.self.inside.settled c.self.inside.tail.items c.self.invariant.front))

pub returns-clause-part : goal.returns-clause-part
returns-clause-part c =
    let old = c.self.inside.pieces.items in
    let new = c.in_ok-pieces.pieces.items in
    let part : c.in-Some.tail.items ≡ cut_part c.deref.result.now = subst (λ o. IfSome o (λ v. v.items ≡ cut_part c.deref.result.now)) c.in-Some.is c.in_ok-tail.ensures.part in
    ap₂ (λ (front tail : List Edge). front ++ tail) (all_copied arc_slice_items old new (copied_from arc_slice_items old c.deref-2.result.now new c.deref-2.ensures.value c.in_ok-pieces.ensures.items)) (part ∙ ap cut_part c.deref.ensures.value)
    ∙ sym (part_past (flat_map arc_slice_items old) c.self.inside.tail.items c.self.invariant.settled) ∙ ap cut_part c.self.view_is
