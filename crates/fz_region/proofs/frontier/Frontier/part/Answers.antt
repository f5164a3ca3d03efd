use Rattle.std.proofs.Common.{◌≡◌, sym, subst}
use Rattle.std.specs.Prelude.{IfSome}
use Rattle.fz_tree.specs.Frontier.{AreEdges, cut_part}
use Rattle.fz_tree.proofs.Cuts.{edges_part}
use Rattle.fz_region.proofs.frontier.Frontier.part.Goals as goal

pub invariant_of-result : goal.invariant_of-result
invariant_of-result c =
    let part : c.in-Some.edges ≡ cut_part c.self.inside.edges = subst (λ o. IfSome o (λ es. es ≡ cut_part c.self.inside.edges)) c.in-Some.is c.in_ok-edges.ensures.part in
    subst AreEdges (sym part) (edges_part c.self.inside.edges c.self.invariant)
