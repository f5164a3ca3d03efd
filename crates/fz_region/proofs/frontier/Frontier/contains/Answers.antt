use Rattle.std.proofs.Common.{◌∙◌, ap, sym, subst, cond}
use Rattle.fz_tree.specs.Frontier.{Frontier, AreEdges, is_below, is_in}
use Rattle.fz_tree.proofs.Times.{in_once}
use Rattle.fz_region.proofs.frontier.Frontier.contains.Goals as goal

pub returns-clause-once : goal.returns-clause-once
returns-clause-once c =
    in_once c.args.self.now c.args.assignment.now (subst (λ (f : Frontier). AreEdges f.edges) c.self.view_is c.self.invariant)
    ∙ ap (λ b. cond b 1 0) (sym (c.is_inside.ensures ∙ ap (is_below c.self.inside.edges c.self.inside.current_open) c.values.ensures.values
    ∙ ap (λ (f : Frontier). is_in f c.args.assignment.now) c.self.view_is))
