use Rattle.std.proofs.Common.{refl, sym, subst}
use Rattle.fz_agenda.specs.Queues.{Lineup}
use Rattle.fz_engine.specs.Runs.{IsRun}
use Rattle.fz_engine.proofs.Running.{run_none, all_rest}
use Rattle.fz_engine.proofs.engine.step.Goals as goal

pub returns-in-None-clause-run : goal.returns-in-None-clause-run
returns-in-None-clause-run c =
    subst (λ (l : Lineup). IsRun c.args.network.now c.args.store.now c.args.store.now l.states) (sym c.next.ensures.same)
    (run_none c.args.network.now c.args.store.now c.args.agenda.now.states c.doms.ensures.store c.requires.alive)

pub returns-in-None-clause-progress : goal.returns-in-None-clause-progress
returns-in-None-clause-progress c =
    (refl, all_rest c.args.network.now c.args.agenda.now.states c.args.store.now c.wakes.ensures.network c.doms.ensures.store c.requires.drained c.in-None.ensures.none c.requires.alive)
