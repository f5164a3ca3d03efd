use Rattle.std.proofs.Common.{◌*◌, ◌+◌, subst, List, arith}
use Rattle.std.specs.Arc.{arc_slice_items}
use Rattle.std.specs.List.{flat_map}
use Rattle.fz_tree.specs.Frontier.{Edge}
use Rattle.fz_region.specs.Places.{IsTopmost}
use Rattle.fz_region.specs.declared.pieces.TheConstants.{PIECE}
use Rattle.fz_region.proofs.InPieces.{all_length}
use Rattle.fz_region.proofs.Settled.{topmost_at}
use Rattle.fz_region.proofs.edges.Edges.topmost.Goals as goal

pub returns-in-Some : goal.returns-in-Some
returns-in-Some c =
    let front = flat_map arc_slice_items c.self.inside.pieces.items in
    let place = c.len.result * PIECE + c.in-Some.place in
    let top : IsTopmost c.self.inside.tail.items c.in-Some.place = subst (λ (l : List Edge). IsTopmost l c.in-Some.place) c.deref.ensures.value c.in-Some.ensures in
    subst (λ (l : List Edge). IsTopmost l place) c.self.view_is
    (topmost_at front c.self.inside.tail.items c.in-Some.place place c.self.invariant.settled (omega (arith, c.len.ensures, all_length arc_slice_items c.self.inside.pieces.items c.self.invariant.whole)) top)
