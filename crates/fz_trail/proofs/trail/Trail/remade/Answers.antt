use Rattle.fz_trail.proofs.Decisions.{remade_to}
use Rattle.fz_trail.proofs.trail.Trail.remade.Goals as goal

pub returns-clause-space : goal.returns-clause-space
returns-clause-space g c = λ m known t.
    remade_to m known c.args.edges.now c.in_ok-kept.kept.depth c.len.result (g.S.SearchSpace.spaced c.in_ok-kept.kept.space) (g.S.SearchSpace.spaced c.commit_all.new.space) c.len.ensures (c.in_ok-kept.ensures.space m known t).is_at
    c.in_ok-commit_all.ensures.model (c.in_ok-commit_all.ensures.covers known)
