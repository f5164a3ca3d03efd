use Rattle.std.proofs.Common.{◌∙◌, ◌++◌, List, ap, sym, subst}
use Rattle.std.specs.Arc.{arc_slice_items}
use Rattle.std.specs.List.{flat_map}
use Rattle.fz_tree.specs.Frontier.{Edge, cut_rest}
use Rattle.fz_region.specs.Pieces.{AreSettledTo}
use Rattle.fz_region.proofs.InPieces.{other_tail}
use Rattle.fz_region.proofs.Settled.{rest_past, settled_rest}
use Rattle.fz_region.proofs.edges.Edges.drop_cut.Goals as goal

pub invariant_of-self : goal.invariant_of-self
invariant_of-self c =
    other_tail arc_slice_items c.self.inside.pieces.items c.self.inside.tail.items c.drop_cut_in.new.tail.items c.self.inside.settled c.self.invariant
    (subst (AreSettledTo c.self.inside.settled) (sym c.drop_cut_in.ensures) (settled_rest c.self.inside.settled c.self.inside.tail.items c.self.invariant.front))

pub returns : goal.returns
returns c =
    let front = flat_map arc_slice_items c.self.inside.pieces.items in
    ap (λ (l : List Edge). front ++ l) c.drop_cut_in.ensures ∙ sym (rest_past front c.self.inside.tail.items c.self.invariant.settled) ∙ ap cut_rest c.self.view_is
