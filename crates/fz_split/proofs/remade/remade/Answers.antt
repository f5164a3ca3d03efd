use Rattle.std.proofs.Common.{◌∙◌, [], List, None, ap, sym, subst, take}
use Rattle.std.proofs.lemmas.List.{take_more, take_all}
use Rattle.fz_tree.specs.declared.decision.Decision.{Decision}
use Rattle.fz_search_space.specs.Spaces.{Spaced, Covers}
use Rattle.fz_split.proofs.remade.remade.Goals as goal

pub places-init : goal.places-init
places-init g c = record { model = ap (λ (s : Spaced). s.model) c.in_ok-space.ensures; covers = subst (Covers None []) (sym c.in_ok-space.ensures) c.requires }

pub places-preserved : goal.places-preserved
places-preserved g c = record {
  model = c.in_ok-decide.ensures.model ∙ c.places.invariant.model;
  covers = subst (λ (ds : List Decision). Covers None ds (g.S.SearchSpace.spaced c.decide.new.space)) (sym (take_more c.decisions-taken.result.now c.places.place _ c.places-test.true))
      (c.in_ok-decide.ensures.covers (take c.places.place c.decisions-taken.result.now) c.places.invariant.covers);
}

pub returns-clause-covers : goal.returns-clause-covers
returns-clause-covers g c =
    subst (λ (ds : List Decision). Covers None ds (g.S.SearchSpace.spaced c.places.space)) (take_all c.places.place c.decisions-taken.result.now c.places-test.false ∙ c.decisions-taken.ensures) c.places.invariant.covers
