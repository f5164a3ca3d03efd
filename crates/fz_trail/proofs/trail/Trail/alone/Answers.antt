use Rattle.std.proofs.Common.{sym, subst, []}
use Rattle.fz_trail.specs.Nodes.{IsAt}
use Rattle.fz_trail.proofs.trail.Trail.alone.Goals as goal

pub returns-clause-trail : goal.returns-clause-trail
returns-clause-trail g c = λ m known es trail.
    c.new.ensures.trail m known (subst (λ s. IsAt m known [] (g.S.SearchSpace.spaced s)) (sym c.in_ok-root.ensures.cases) trail.root)
