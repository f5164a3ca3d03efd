use Rattle.std.proofs.Common.{sym, subst}
use Rattle.fz_tree.specs.Frontier.{AreEdges}
use Rattle.fz_tree.proofs.Nodes.{edges_settled}
use Rattle.fz_region.proofs.frontier.Frontier.node.Goals as goal

pub invariant_of-result : goal.invariant_of-result
invariant_of-result c = subst AreEdges (sym c.in_ok-edges.ensures) (edges_settled c.self.inside.edges c.self.invariant)
