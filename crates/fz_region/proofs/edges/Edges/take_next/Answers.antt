use Rattle.std.proofs.Common.{◌≡◌, ◌++◌, List, subst}
use Rattle.std.specs.Bool.{OnTrue}
use Rattle.std.specs.Arc.{arc_slice_items}
use Rattle.std.specs.List.{flat_map}
use Rattle.fz_tree.specs.Frontier.{Edge, next_edges}
use Rattle.fz_region.proofs.InPieces.{other_tail}
use Rattle.fz_region.proofs.Settled.{moved_past, settled_moved}
use Rattle.fz_region.proofs.edges.Edges.take_next.Goals as goal

pub invariant_of-self : goal.invariant_of-self
invariant_of-self c =
    other_tail arc_slice_items c.self.inside.pieces.items c.self.inside.tail.items c.take_next_in.new.tail.items c.self.inside.settled c.self.invariant
    (settled_moved c.take_next_in.result c.self.inside.settled c.self.inside.tail.items c.take_next_in.new.tail.items c.take_next_in.ensures.some c.take_next_in.ensures.moved c.take_next_in.ensures.none c.self.invariant.front)

pub returns-clause-moved : goal.returns-clause-moved
returns-clause-moved c =
    subst (λ (es : List Edge). OnTrue c.take_next_in.result (flat_map arc_slice_items c.self.inside.pieces.items ++ c.take_next_in.new.tail.items ≡ next_edges es)) c.self.view_is
    (moved_past c.take_next_in.result (flat_map arc_slice_items c.self.inside.pieces.items) c.self.inside.tail.items c.take_next_in.new.tail.items c.take_next_in.ensures.some c.take_next_in.ensures.moved)
