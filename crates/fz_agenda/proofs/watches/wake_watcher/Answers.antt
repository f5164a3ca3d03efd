use Rattle.std.proofs.Common.{refl, ap}
use Rattle.fz_agenda.specs.Queues.{class_of}
use Rattle.fz_agenda.proofs.Looking.{LooksNow}
use Rattle.fz_agenda.proofs.Woken.{woken_wake}
use Rattle.fz_agenda.proofs.watches.wake_watcher.Goals as goal

pub returns-in_ok-wake_idle-clause-woken : goal.returns-in_ok-wake_idle-clause-woken
returns-in_ok-wake_idle-clause-woken c =
    woken_wake c.wake_idle.result (LooksNow c.args.store.now.doms c.args.watch.now) c.args.costs.now c.args.agenda.now c.wake_idle.new.self (class_of c.cost_at.result) c.args.watch.now.place c.wake_idle.ensures.idle
    c.wake_idle.ensures.other c.wake_idle.ensures.err (ap class_of c.cost_at.ensures) (refl, c.looks_now.ensures.0 c.if-looks_now.true)
