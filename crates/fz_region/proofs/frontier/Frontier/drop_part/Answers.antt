use Rattle.std.proofs.Common.{sym, subst}
use Rattle.fz_tree.specs.Frontier.{AreEdges}
use Rattle.fz_tree.proofs.Cuts.{edges_rest}
use Rattle.fz_region.proofs.frontier.Frontier.drop_part.Goals as goal

pub invariant_of-self : goal.invariant_of-self
invariant_of-self c = subst AreEdges (sym c.drop_cut.ensures) (edges_rest c.self.inside.edges c.self.invariant)
