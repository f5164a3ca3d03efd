use Rattle.std.proofs.Common.{List, sym, subst}
use Rattle.std.proofs.lemmas.Result.{IfOk-weaker}
use Rattle.std.specs.Prelude.{ℤ}
use Rattle.fz_prop.specs.Told.{AreTold}
use Rattle.fz_agenda.specs.Wakes.{Waking, IsDraining}
use Rattle.fz_engine.specs.declared.engine.Progress.{Progress}
use Rattle.fz_engine.specs.Steps.{IsProgress, IsAdvance}
use Rattle.fz_engine.proofs.Running.{run_none, run_drained, run_twice, sized}
use Rattle.fz_engine.proofs.Advancing.{advanced}
use Rattle.fz_engine.proofs.engine.advance.Goals as goal

pub drain-requires : goal.drain-requires
drain-requires c = rw c.wakes.ensures.wakes (sized c.args.network.now c.args.agenda.now.states c.args.store.now c.wakes.ensures.network c.requires.alive)

pub returns-in_err-drain-clause-run : goal.returns-in_err-drain-clause-run
returns-in_err-drain-clause-run c =
    run_drained c.args.network.now c.args.store.now c.args.store.now c.drain.new.store c.args.agenda.now c.drain.new.agenda c.wakes.ensures.network
    (run_none c.args.network.now c.args.store.now c.args.agenda.now.states c.doms.ensures.store c.requires.alive)
    (subst (λ (w : Waking). IsDraining w c.args.store.now c.args.agenda.now c.drain.new.store c.drain.new.agenda) c.wakes.ensures.wakes c.drain.ensures.draining)

pub step-requires-clause-alive : goal.step-requires-clause-alive
step-requires-clause-alive c =
    (run_drained c.args.network.now c.args.store.now c.args.store.now c.drain.new.store c.args.agenda.now c.drain.new.agenda c.wakes.ensures.network
    (run_none c.args.network.now c.args.store.now c.args.agenda.now.states c.doms.ensures.store c.requires.alive)
    (subst (λ (w : Waking). IsDraining w c.args.store.now c.args.agenda.now c.drain.new.store c.drain.new.agenda) c.wakes.ensures.wakes c.drain.ensures.draining)).alive

pub returns-in_err-drain-clause-told : goal.returns-in_err-drain-clause-told
returns-in_err-drain-clause-told c = subst (λ (ds : List (List (ℤ × ℤ))). AreTold c.args.network.now.sayings c.args.kept.now ds) (sym c.drain.ensures.draining.doms) c.requires.told

pub step-requires-clause-told : goal.step-requires-clause-told
step-requires-clause-told c = subst (λ (ds : List (List (ℤ × ℤ))). AreTold c.args.network.now.sayings c.args.kept.now ds) (sym c.drain.ensures.draining.doms) c.requires.told

pub returns-clause-run : goal.returns-clause-run
returns-clause-run c =
    run_twice c.args.network.now c.args.store.now c.drain.new.store c.step.new.store c.drain.new.agenda.states c.step.new.agenda.states
    (run_drained c.args.network.now c.args.store.now c.args.store.now c.drain.new.store c.args.agenda.now c.drain.new.agenda c.wakes.ensures.network
    (run_none c.args.network.now c.args.store.now c.args.agenda.now.states c.doms.ensures.store c.requires.alive)
    (subst (λ (w : Waking). IsDraining w c.args.store.now c.args.agenda.now c.drain.new.store c.drain.new.agenda) c.wakes.ensures.wakes c.drain.ensures.draining))
    c.step.ensures.run

pub returns-clause-progress : goal.returns-clause-progress
returns-clause-progress c =
    let m = c.args.network.now.model in
    let after = c.step.new.agenda.states in
    IfOk-weaker c.step.result
    (λ (p : Progress). IsProgress p m c.drain.new.store c.drain.new.agenda.states c.step.new.store after)
    (λ (p : Progress). IsAdvance p m c.args.store.now c.args.agenda.now.states c.step.new.store after)
    (λ (p : Progress). advanced c.wakes.result.now c.args.store.now c.drain.new.store c.step.new.store c.args.agenda.now c.drain.new.agenda after m p c.drain.ensures.draining)
    c.step.ensures.progress
