use Rattle.std.proofs.Common.{sym, subst}
use Rattle.std.proofs.lemmas.Result.{on_ok_weaker}
use Rattle.std.specs.Arc.{arc_value}
use Rattle.fz_engine.specs.Networks.{Networked}
use Rattle.fz_engine.specs.Runs.{IsAlive}
use Rattle.fz_search_space.specs.Spaces.{AllBetter}
use Rattle.fz_space.specs.Alive.{spaced}
use Rattle.fz_space.proofs.Fronts.{was_alive}
use Rattle.fz_space.proofs.contents.ContentsSearchSpace.tell_bound.Goals as goal

pub invariant_of-self : goal.invariant_of-self
invariant_of-self c = (
  λ alive. (
    subst (λ (n : Networked). IsAlive n c.self.inside.agenda.states c.keep_better.new.store) c.deref.ensures
        (c.keep_better.ensures.alive c.self.inside.agenda.states (λ before. subst (λ (n : Networked). IsAlive n c.self.inside.agenda.states c.self.inside.store) (sym c.deref.ensures) (c.self.invariant.0 before).0) alive),
    c.keep_better.ensures.front c.self.inside.front (λ before. (c.self.invariant.0 before).1) alive,
    c.keep_better.ensures.told (arc_value c.self.inside.network).sayings c.self.inside.kept.items
        (c.self.invariant.0 (was_alive c.self.inside.failed c.keep_better.new.failed c.keep_better.ensures.stays alive)).2,
  ),
  c.keep_better.ensures.settled c.self.inside.settled c.self.invariant.1,
)

pub returns-clause-better : goal.returns-clause-better
returns-clause-better c =
    let states = c.self.inside.agenda.states in
    on_ok_weaker c.keep_better.result
    (λ better. subst (λ (n : Networked). AllBetter c.args.known.now (spaced n.model c.keep_better.new.store c.keep_better.new.failed)) c.deref.ensures
    (better states (λ before. subst (λ (n : Networked). IsAlive n states c.self.inside.store) (sym c.deref.ensures) (c.self.invariant.0 before).0)))
    c.keep_better.ensures.better
