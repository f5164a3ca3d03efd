use Rattle.std.proofs.Common.{◌∙◌}
use Rattle.fz_trail.proofs.Decisions.{brought_at}
use Rattle.fz_trail.proofs.trail.brought_to.Goals as goal

pub returns-clause-space : goal.returns-clause-space
returns-clause-space g c = λ m known kept.
    brought_at m known c.args.edges.now c.args.kept.depth c.args.depth (g.S.SearchSpace.spaced c.args.kept.space) (g.S.SearchSpace.spaced c.status.new.self) c.requires.below.0 kept.is_at
    (c.status.ensures.model ∙ c.in_ok-commit_all.ensures.model) (λ ds covers. c.in_ok-status.ensures.covers known _ (c.in_ok-commit_all.ensures.covers known ds covers))
