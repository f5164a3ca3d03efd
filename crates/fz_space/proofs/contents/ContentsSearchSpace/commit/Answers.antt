use Rattle.std.proofs.Common.{◌++◌, ◌∷◌, [], sym, subst}
use Rattle.std.proofs.lemmas.Result.{on_ok_weaker}
use Rattle.std.specs.Arc.{arc_value}
use Rattle.fz_tree.specs.declared.decision.Decision.{Decision}
use Rattle.fz_search_space.specs.Spaces.{Spaced, Covers}
use Rattle.fz_space.specs.Alive.{spaced}
use Rattle.fz_space.proofs.Fronts.{at_some, lacking_now, was_alive}
use Rattle.fz_space.proofs.contents.ContentsSearchSpace.commit.Goals as goal

pub invariant_of-self : goal.invariant_of-self
invariant_of-self c = (
  λ alive. (
    c.take.ensures.alive (arc_value c.self.inside.network) c.self.inside.agenda.states (λ before. (c.self.invariant.0 before).0) alive,
    c.take.ensures.front c.self.inside.front (λ before. (c.self.invariant.0 before).1) alive,
    c.take.ensures.told (arc_value c.self.inside.network).sayings c.self.inside.kept.items (c.self.invariant.0 (was_alive c.self.inside.failed c.take.new.failed c.take.ensures.stays alive)).2,
  ),
  c.take.ensures.settled c.self.inside.settled c.self.invariant.1,
)

pub returns-clause-covers : goal.returns-clause-covers
returns-clause-covers c =
    let m = (arc_value c.self.inside.network).model in
    let after = spaced m c.take.new.store c.take.new.failed in
    on_ok_weaker c.take.result
    (λ covers known ds d at before.
    let is = at_some c.args.choice.now c.args.alternative d c.decision.result at c.decision.ensures in
    subst (λ (e : Decision). Covers known (ds ++ e ∷ []) after) is (covers m known ds (subst (λ (s : Spaced). Covers known ds s) (sym c.self.view_is) before)))
    c.take.ensures.covers

pub returns-clause-lacking : goal.returns-clause-lacking
returns-clause-lacking c =
    on_ok_weaker c.take.result
    (λ lacking d at beyond.
    let is = at_some c.args.choice.now c.args.alternative d c.decision.result at c.decision.ensures in
    lacking_now (arc_value c.self.inside.network) c.self.inside.agenda.states c.self.inside.store c.self.inside.failed c.take.new.failed c.args.self.now c.decision.result d c.self.view_is is
    (λ alive. (c.self.invariant.0 alive).0) c.take.ensures.stays lacking beyond)
    c.take.ensures.lacking
