use Rattle.fz_engine.proofs.Running.{run_none, run_twice}
use Rattle.fz_engine.proofs.engine.run_all.Goals as goal

pub steps-init : goal.steps-init
steps-init c = record { run = run_none c.args.network.now c.args.store.now c.args.agenda.now.states c.doms.ensures.store c.requires.alive; drained = c.requires.drained; told = c.requires.told }

pub returns-in_err-progress-clause-run : goal.returns-in_err-progress-clause-run
returns-in_err-progress-clause-run c =
    run_twice c.args.network.now c.args.store.now c.steps.store c.step.new.store c.steps.agenda.states c.step.new.agenda.states c.steps.invariant.run c.step.ensures.run
