use Rattle.std.proofs.Common.{◌∙◌, sym, subst}
use Rattle.fz_tree.specs.Frontier.{AreEdges}
use Rattle.fz_tree.proofs.Propers.{edges_next}
use Rattle.fz_region.proofs.frontier.Frontier.advance.Goals as goal

pub invariant_of-self-2 : goal.invariant_of-self-2
invariant_of-self-2 c =
    subst AreEdges (sym c.if-not-take_next.ensures.moved) (edges_next c.self.inside.edges (sym c.take_next.ensures.some ∙ c.if-not-take_next.false) c.self.invariant)
