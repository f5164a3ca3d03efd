use Rattle.std.proofs.Common.{◌≡◌, ◌∙◌, ◌++◌, ◌∷◌, [], List, None, ap, sym, subst}
use Rattle.std.proofs.lemmas.Result.{on_ok_weaker}
use Rattle.fz_tree.specs.declared.decision.Decision.{Decision}
use Rattle.fz_search_space.specs.Spaces.{Spaced, Covers}
use Rattle.fz_split.specs.Fronts.{Comes}
use Rattle.fz_split.proofs.Fronts.{gains, comes_count, comes_weight}
use Rattle.fz_split.proofs.splitting.add_alternative.Goals as goal

pub returns-clause-gains : goal.returns-clause-gains
returns-clause-gains g c =
    let child = c.args.part.now ++ c.args.decision ∷ [] in
    let at = g.S.SearchSpace.spaced c.status.new.self in
    let model : at.model ≡ (g.S.SearchSpace.spaced c.args.space.now).model = c.in_ok-status.ensures.model ∙ c.in_ok-commit.ensures.model ∙ ap (λ (s : Spaced). s.model) c.in_ok-below.ensures in
    let covers : Covers None child at = c.in_ok-status.ensures.covers None child (c.in_ok-commit.ensures.covers None c.args.part.now c.args.decision c.requires.is (subst (Covers None c.args.part.now) (sym c.in_ok-below.ensures) c.requires.covers)) in
    on_ok_weaker c.add.result
    (λ comes. gains (g.S.SearchSpace.spaced c.args.space.now).model child at c.in_ok-status.status c.args.nodes.now c.add.new.self model covers c.in_ok-status.ensures.answer c.requires.part c.requires.front (subst (λ (p : List Decision). Comes c.in_ok-status.status p c.args.nodes.now c.add.new.self) c.in_ok-child.ensures comes))
    c.add.ensures

pub returns-clause-few : goal.returns-clause-few
returns-clause-few g c = on_ok_weaker c.add.result (λ comes. comes_count c.in_ok-status.status c.in_ok-child.child c.args.nodes.now c.add.new.self comes) c.add.ensures

pub returns-clause-falls : goal.returns-clause-falls
returns-clause-falls g c = on_ok_weaker c.add.result
    (λ comes. comes_weight (g.S.SearchSpace.spaced c.args.space.now).model c.in_ok-status.status (c.args.part.now ++ c.args.decision ∷ []) c.args.nodes.now c.add.new.self (subst (λ (p : List Decision). Comes c.in_ok-status.status p c.args.nodes.now c.add.new.self) c.in_ok-child.ensures comes))
    c.add.ensures
