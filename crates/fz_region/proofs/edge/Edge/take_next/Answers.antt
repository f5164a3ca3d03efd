use Rattle.std.proofs.Common.{ap, arith, ltb-true}
use Rattle.fz_tree.specs.Frontier.{Edge}
use Rattle.fz_region.proofs.edge.Edge.take_next.Goals as goal

pub overflow_add-self : goal.overflow_add-self
overflow_add-self c =
    omega (arith, ltb-true c.args.self.now.taken c.args.self.now.last c.requires, ap (λ (e : Edge). e.taken) c.self.view_is, ap (λ (e : Edge). e.last) c.self.view_is)
