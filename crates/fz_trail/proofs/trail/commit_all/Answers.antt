use Rattle.std.proofs.Common.{◌≡◌, ◌∙◌, ◌++◌, ℕ, refl, subst, arith}
use Rattle.std.specs.List.{slice_range}
use Rattle.fz_search_space.specs.Spaces.{Covers}
use Rattle.fz_trail.specs.Nodes.{decisions_of}
use Rattle.fz_trail.proofs.Decisions.{commit_from, none_from}
use Rattle.fz_trail.proofs.trail.commit_all.Goals as goal

pub places-init : goal.places-init
places-init g c = (refl, (λ known ds covers. none_from c.args.edges.now c.args.from known ds (g.S.SearchSpace.spaced c.args.space.now) covers), refl)

pub places-preserved : goal.places-preserved
places-preserved g c = (
  c.in_ok-commit.ensures.model ∙ c.places.invariant.0,
  (λ known ds covers.
      commit_from c.args.edges.now c.args.from c.places.place (record { choice = c.edge.inside.choice; taken = c.edge.inside.taken; last = c.edge.inside.last }) c.edge-edge.result.now known ds
      (g.S.SearchSpace.spaced c.places.space) (g.S.SearchSpace.spaced c.commit.new.self) (omega arith) (omega arith) (c.edge.view_is ∙ c.edge-edge.ensures) c.requires.edges
      (c.in_ok-commit.ensures.covers known) (c.places.invariant.1 known ds covers)),
  omega (arith, c.tick.ensures, c.places.invariant.2),
)

pub returns-in_err-commit-clause-count : goal.returns-in_err-commit-clause-count
returns-in_err-commit-clause-count g c = omega (arith, c.tick.ensures, c.places.invariant.2)

pub returns-clause-covers : goal.returns-clause-covers
returns-clause-covers g c = λ known ds covers.
    let end : c.places.place ≡ c.args.to = omega arith in
    subst (λ (n : ℕ). Covers known (ds ++ decisions_of (slice_range c.args.edges.now c.args.from n)) (g.S.SearchSpace.spaced c.places.space)) end (c.places.invariant.1 known ds covers)
