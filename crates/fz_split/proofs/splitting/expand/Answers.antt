use Rattle.std.proofs.Common.{◌∙◌, ◌<◌, ◌+◌, None, sym, subst, refl, arith}
use Rattle.std.proofs.lemmas.Result.{on_ok_weaker}
use Rattle.fz_spec.specs.Instance.{Instance}
use Rattle.fz_search_space.specs.Spaces.{Covers, IsStatus}
use Rattle.fz_search_space.specs.declared.space.Status.{Status}
use Rattle.fz_search_space.specs.declared.space.Status.TheVariants.{Failed, Solved}
use Rattle.fz_branch.specs.Plans.{IsPlanOf}
use Rattle.fz_part.specs.Parts.{IsPartOf}
use Rattle.fz_split.specs.Fronts.{IsFront, Gains}
use Rattle.fz_split.specs.Weights.{weight_in, weight_of}
use Rattle.fz_split.proofs.Fronts.{gains, front_taken, keeps, count_taken, weight_taken, closed_falls, comes_count}
use Rattle.fz_split.proofs.splitting.expand.Goals as goal

pub room-room-requires : goal.room-room-requires
room-room-requires g c = let before = count_taken c.in-Some.part c.args.nodes.now c.next.new.self c.in-Some.ensures.some in omega (arith, before, c.requires.room)

pub divide-requires-clause-covers : goal.divide-requires-clause-covers
divide-requires-clause-covers g c = c.in_ok-status.ensures.covers None c.in-Some.part c.in_ok-space.ensures.covers

pub divide-requires-clause-branch : goal.divide-requires-clause-branch
divide-requires-clause-branch g c = subst (λ (s : Status). IsStatus s (g.S.SearchSpace.spaced c.status.new.self)) c.in-Branch.is c.in_ok-status.ensures.answer

pub divide-requires-clause-plan : goal.divide-requires-clause-plan
divide-requires-clause-plan g c = subst (λ (m : Instance). IsPlanOf m c.args.plan.now) (sym (c.in_ok-status.ensures.model ∙ c.in_ok-space.ensures.model)) c.requires.plan

pub divide-requires-clause-part : goal.divide-requires-clause-part
divide-requires-clause-part g c = subst (λ (m : Instance). IsPartOf m c.in-Some.part) (sym (c.in_ok-status.ensures.model ∙ c.in_ok-space.ensures.model))
    (front_taken (g.S.SearchSpace.spaced c.args.root.now).model c.in-Some.part c.args.nodes.now c.next.new.self c.in-Some.ensures.some c.requires.front).0

pub divide-requires-clause-front : goal.divide-requires-clause-front
divide-requires-clause-front g c = subst (λ (m : Instance). IsFront m c.next.new.self) (sym (c.in_ok-status.ensures.model ∙ c.in_ok-space.ensures.model))
    (front_taken (g.S.SearchSpace.spaced c.args.root.now).model c.in-Some.part c.args.nodes.now c.next.new.self c.in-Some.ensures.some c.requires.front).1

pub divide-requires-clause-some : goal.divide-requires-clause-some
divide-requires-clause-some g c =
    let before = count_taken c.in-Some.part c.args.nodes.now c.next.new.self c.in-Some.ensures.some in
    omega (arith, before, c.requires.room, c.room-room.ensures)

pub returns-in-Branch-clause-keeps : goal.returns-in-Branch-clause-keeps
returns-in-Branch-clause-keeps g c = on_ok_weaker c.divide.result
    (λ gained. keeps (g.S.SearchSpace.spaced c.args.root.now).model c.in-Some.part c.args.nodes.now c.next.new.self c.divide.new.nodes c.in-Some.ensures.some
    (subst (λ (m : Instance). Gains m c.in-Some.part c.next.new.self c.divide.new.nodes) (c.in_ok-status.ensures.model ∙ c.in_ok-space.ensures.model) gained)) c.divide.ensures.gains

pub returns-in-Branch-clause-few : goal.returns-in-Branch-clause-few
returns-in-Branch-clause-few g c = on_ok_weaker c.divide.result (λ few. omega (arith, few, c.room-room.ensures)) c.divide.ensures.few

pub returns-in-Branch-clause-falls : goal.returns-in-Branch-clause-falls
returns-in-Branch-clause-falls g c = on_ok_weaker c.divide.result
    (λ falls. (
    let before = weight_taken (g.S.SearchSpace.spaced c.args.root.now).model c.in-Some.part c.args.nodes.now c.next.new.self c.in-Some.ensures.some in
    let less : weight_in (g.S.SearchSpace.spaced c.args.root.now).model c.divide.new.nodes.queue.items < weight_in (g.S.SearchSpace.spaced c.args.root.now).model c.next.new.self.queue.items + weight_of (g.S.SearchSpace.spaced c.args.root.now).model c.in-Some.part
    = subst (λ (m : Instance). weight_in m c.divide.new.nodes.queue.items < weight_in m c.next.new.self.queue.items + weight_of m c.in-Some.part) (c.in_ok-status.ensures.model ∙ c.in_ok-space.ensures.model) falls in
    omega (arith, before, less)
    )) c.divide.ensures.falls

pub returns-in-Failed : goal.returns-in-Failed
returns-in-Failed g c =
    let m = (g.S.SearchSpace.spaced c.args.root.now).model in
    let s = g.S.SearchSpace.spaced c.status.new.self in
    let taken = c.in-Some.ensures.some in
    let both = front_taken m c.in-Some.part c.args.nodes.now c.next.new.self taken c.requires.front in
    let covers : Covers None c.in-Some.part s = c.in_ok-status.ensures.covers None c.in-Some.part c.in_ok-space.ensures.covers in
    let failed : IsStatus Failed s = subst (λ (status : Status). IsStatus status s) c.in-Failed.is c.in_ok-status.ensures.answer in
    let before = count_taken c.in-Some.part c.args.nodes.now c.next.new.self taken in
    record {
      keeps = keeps m c.in-Some.part c.args.nodes.now c.next.new.self c.next.new.self taken
          (gains m c.in-Some.part s Failed c.next.new.self c.next.new.self (c.in_ok-status.ensures.model ∙ c.in_ok-space.ensures.model) covers failed both.0 both.1 (refl, refl));
      few = omega (arith, before, c.requires.room);
      falls = closed_falls m c.in-Some.part c.args.nodes.now c.next.new.self c.next.new.self taken refl;
    }

pub returns-in-Solved : goal.returns-in-Solved
returns-in-Solved g c =
    let m = (g.S.SearchSpace.spaced c.args.root.now).model in
    let s = g.S.SearchSpace.spaced c.status.new.self in
    let taken = c.in-Some.ensures.some in
    let both = front_taken m c.in-Some.part c.args.nodes.now c.next.new.self taken c.requires.front in
    let covers : Covers None c.in-Some.part s = c.in_ok-status.ensures.covers None c.in-Some.part c.in_ok-space.ensures.covers in
    let solved : IsStatus Solved s = subst (λ (status : Status). IsStatus status s) c.in-Solved.is c.in_ok-status.ensures.answer in
    let before = count_taken c.in-Some.part c.args.nodes.now c.next.new.self taken in
    record {
      keeps = on_ok_weaker c.add.result
          (λ comes. keeps m c.in-Some.part c.args.nodes.now c.next.new.self c.add.new.self taken
          (gains m c.in-Some.part s Solved c.next.new.self c.add.new.self (c.in_ok-status.ensures.model ∙ c.in_ok-space.ensures.model) covers solved both.0 both.1 comes)) c.add.ensures;
      few = on_ok_weaker c.add.result (λ comes. let more = comes_count Solved c.in-Some.part c.next.new.self c.add.new.self comes in omega (arith, before, more, c.requires.room)) c.add.ensures;
      falls = on_ok_weaker c.add.result (λ comes. closed_falls m c.in-Some.part c.args.nodes.now c.next.new.self c.add.new.self taken comes.1) c.add.ensures;
    }
