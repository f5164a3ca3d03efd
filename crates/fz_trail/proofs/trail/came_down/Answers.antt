use Rattle.std.proofs.Common.{ℕ, sym, subst, take}
use Rattle.fz_trail.specs.Nodes.{IsAt}
use Rattle.fz_trail.proofs.Decisions.{remade_to}
use Rattle.fz_trail.proofs.trail.came_down.Goals as goal

pub returns-clause-space : goal.returns-clause-space
returns-clause-space g c = λ m known at.
    remade_to m known c.args.edges.now c.count_above.result c.len.result (g.S.SearchSpace.spaced c.args.space) (g.S.SearchSpace.spaced c.commit_all.new.space) c.len.ensures
    (subst (λ (n : ℕ). IsAt m known (take n c.args.edges.now) (g.S.SearchSpace.spaced c.args.space)) (sym c.count_above.ensures) at)
    c.in_ok-commit_all.ensures.model (c.in_ok-commit_all.ensures.covers known)
