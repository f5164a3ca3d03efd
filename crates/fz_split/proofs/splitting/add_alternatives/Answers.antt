use Rattle.std.proofs.Common.{◌∙◌, ◌<◌, ◌≤◌, Some, length, ap, sym, subst, arith}
use Rattle.std.proofs.lemmas.Option.{slice_get-get_or}
use Rattle.fz_model.specs.Kept.{IsModel}
use Rattle.fz_sets.proofs.Lists.{all_read}
use Rattle.fz_part.specs.Parts.{IsDecisionOf}
use Rattle.fz_split.proofs.Covering.{of_model, one_more}
use Rattle.fz_split.proofs.Fronts.{none_divided, one_divided, all_divided, gains_all, weight_falls}
use Rattle.fz_split.proofs.splitting.add_alternatives.Goals as goal

pub alternatives-init : goal.alternatives-init
alternatives-init g c = none_divided (g.S.SearchSpace.spaced c.args.space.now).model c.args.part.now c.args.nodes.now c.requires.front

pub add_alternative-requires-clause-is : goal.add_alternative-requires-clause-is
add_alternative-requires-clause-is g c =
    let below : c.alternatives.alternative < length c.args.choice.now = omega (arith, c.len-alternative-end.ensures.len, c.alternatives-test.true) in
    slice_get-get_or c.args.choice.now c.alternatives.alternative c.decision-decision.result below ∙ ap (λ d. Some d) (sym c.decision-decision.ensures)

pub add_alternative-requires-clause-part : goal.add_alternative-requires-clause-part
add_alternative-requires-clause-part g c =
    let below : c.alternatives.alternative < length c.args.choice.now = omega (arith, c.len-alternative-end.ensures.len, c.alternatives-test.true) in
    let kept = subst IsModel c.model.ensures c.variables.ensures.kept in
    let each = of_model c.args.part.now (g.S.SearchSpace.spaced c.args.space.now) c.args.choice.now kept c.requires.covers c.doms.ensures.domains c.requires.alive c.requires.division in
    one_more (g.S.SearchSpace.spaced c.args.space.now).model c.args.part.now c.decision-decision.result c.requires.part
    (all_read (IsDecisionOf (g.S.SearchSpace.spaced c.args.space.now).model.variables) c.args.choice.now c.alternatives.alternative c.decision-decision.result below c.decision-decision.ensures each)

pub add_alternative-requires-clause-front : goal.add_alternative-requires-clause-front
add_alternative-requires-clause-front g c = c.alternatives.invariant.front

pub alternatives-preserved : goal.alternatives-preserved
alternatives-preserved g c =
    let below : c.alternatives.alternative < length c.args.choice.now = omega (arith, c.len-alternative-end.ensures.len, c.alternatives-test.true) in
    one_divided (g.S.SearchSpace.spaced c.args.space.now).model c.args.part.now c.args.choice.now c.alternatives.alternative c.decision-decision.result c.args.nodes.now c.alternatives.nodes c.add_alternative.new.nodes
    below c.decision-decision.ensures c.alternatives.invariant c.in_ok-add_alternative.ensures.gains c.in_ok-add_alternative.ensures.few c.in_ok-add_alternative.ensures.falls

pub returns-clause-gains : goal.returns-clause-gains
returns-clause-gains g c =
    let beyond : length c.args.choice.now ≤ c.alternatives.alternative = omega (arith, c.len-alternative-end.ensures.len, c.alternatives-test.false) in
    let all = all_divided (g.S.SearchSpace.spaced c.args.space.now).model c.args.part.now c.args.choice.now c.alternatives.alternative c.args.nodes.now c.alternatives.nodes beyond c.alternatives.invariant in
    gains_all c.args.part.now (g.S.SearchSpace.spaced c.args.space.now) c.args.choice.now c.args.nodes.now c.alternatives.nodes c.requires.covers c.requires.division c.len-alternative-end.ensures.choice all

pub returns-clause-few : goal.returns-clause-few
returns-clause-few g c =
    let beyond : length c.args.choice.now ≤ c.alternatives.alternative = omega (arith, c.len-alternative-end.ensures.len, c.alternatives-test.false) in
    (all_divided (g.S.SearchSpace.spaced c.args.space.now).model c.args.part.now c.args.choice.now c.alternatives.alternative c.args.nodes.now c.alternatives.nodes beyond c.alternatives.invariant).count

pub returns-clause-falls : goal.returns-clause-falls
returns-clause-falls g c =
    let beyond : length c.args.choice.now ≤ c.alternatives.alternative = omega (arith, c.len-alternative-end.ensures.len, c.alternatives-test.false) in
    let all = all_divided (g.S.SearchSpace.spaced c.args.space.now).model c.args.part.now c.args.choice.now c.alternatives.alternative c.args.nodes.now c.alternatives.nodes beyond c.alternatives.invariant in
    weight_falls c.args.part.now (g.S.SearchSpace.spaced c.args.space.now) c.args.choice.now c.args.nodes.now c.alternatives.nodes c.requires.covers c.doms.ensures.domains c.requires.alive c.requires.division c.len-alternative-end.ensures.choice all
