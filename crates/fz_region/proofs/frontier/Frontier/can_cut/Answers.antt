use Rattle.std.proofs.Common.{ap, ◌∙◌}
use Rattle.std.specs.List.{list_any}
use Rattle.fz_tree.specs.Frontier.{Frontier, edge_has_rest}
use Rattle.fz_region.proofs.frontier.Frontier.can_cut.Goals as goal

pub returns : goal.returns
returns c = c.has_rest.ensures ∙ ap (λ (f : Frontier). list_any edge_has_rest f.edges) c.self.view_is
