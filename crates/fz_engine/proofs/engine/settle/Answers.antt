use Rattle.std.proofs.Common.{List, sym, subst}
use Rattle.std.specs.Prelude.{ℤ}
use Rattle.fz_prop.specs.Told.{AreTold}
use Rattle.fz_agenda.specs.Wakes.{Waking, IsDraining}
use Rattle.fz_engine.proofs.Running.{run_none, run_drained, sized}
use Rattle.fz_engine.proofs.engine.settle.Goals as goal

pub drain-requires : goal.drain-requires
drain-requires c = rw c.wakes.ensures.wakes (sized c.args.network.now c.args.agenda.now.states c.args.store.now c.wakes.ensures.network c.requires.alive)

pub returns-in_err-drain-clause-run : goal.returns-in_err-drain-clause-run
returns-in_err-drain-clause-run c =
    run_drained c.args.network.now c.args.store.now c.args.store.now c.drain.new.store c.args.agenda.now c.drain.new.agenda c.wakes.ensures.network
    (run_none c.args.network.now c.args.store.now c.args.agenda.now.states c.doms.ensures.store c.requires.alive)
    (subst (λ (w : Waking). IsDraining w c.args.store.now c.args.agenda.now c.drain.new.store c.drain.new.agenda) c.wakes.ensures.wakes c.drain.ensures.draining)

pub run_all-requires-clause-alive : goal.run_all-requires-clause-alive
run_all-requires-clause-alive c =
    (run_drained c.args.network.now c.args.store.now c.args.store.now c.drain.new.store c.args.agenda.now c.drain.new.agenda c.wakes.ensures.network
    (run_none c.args.network.now c.args.store.now c.args.agenda.now.states c.doms.ensures.store c.requires.alive)
    (subst (λ (w : Waking). IsDraining w c.args.store.now c.args.agenda.now c.drain.new.store c.drain.new.agenda) c.wakes.ensures.wakes c.drain.ensures.draining)).alive

pub returns-in_err-drain-clause-told : goal.returns-in_err-drain-clause-told
returns-in_err-drain-clause-told c = subst (λ (ds : List (List (ℤ × ℤ))). AreTold c.args.network.now.sayings c.args.kept.now ds) (sym c.drain.ensures.draining.doms) c.requires.told

pub run_all-requires-clause-told : goal.run_all-requires-clause-told
run_all-requires-clause-told c = subst (λ (ds : List (List (ℤ × ℤ))). AreTold c.args.network.now.sayings c.args.kept.now ds) (sym c.drain.ensures.draining.doms) c.requires.told
