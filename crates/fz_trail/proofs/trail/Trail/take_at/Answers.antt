use Rattle.std.proofs.Common.{◌∙◌, ◌-◌, Option, IfSome, length, take, sym, subst}
use Rattle.std.proofs.lemmas.Result.{IfOk-weaker}
use Rattle.fz_trail.specs.Nodes.{IsAt}
use Rattle.fz_trail.proofs.trail.Trail.take_at.Goals as goal

pub returns-in-Some-clause-space : goal.returns-in-Some-clause-space
returns-in-Some-clause-space g c = IfOk-weaker c.came_down.result _ _
    (λ s h. λ m known t. h m known
    (subst (λ (o : Option _). IfSome o (λ x. IsAt m known (take (length c.args.edges.now - 1) c.args.edges.now) (g.S.SearchSpace.spaced x))) (sym c.take.ensures.value ∙ c.in-Some.is) t.current))
    c.came_down.ensures.space
