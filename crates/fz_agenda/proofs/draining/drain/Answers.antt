use Rattle.fz_agenda.proofs.Drained.{draining_woken, draining_taken}
use Rattle.fz_agenda.proofs.draining.drain.Goals as goal

pub changes-preserved : goal.changes-preserved
changes-preserved c =
    let first = c.in-Some.ensures.first in
    draining_taken c.args.wakes.now c.args.store.now c.changes.store c.take_changed.new.self c.args.agenda.now c.changes.agenda c.wake.new.agenda c.in-Some.variable c.mark.result first.0
    c.changes.invariant first.1 c.wake.ensures.woken c.mark.ensures c.in_ok-wake.ensures.awake c.in_ok-wake.ensures.watching c.take_changed.ensures c.doms-in-Some.ensures.store

pub returns-in_err-wake-clause-draining : goal.returns-in_err-wake-clause-draining
returns-in_err-wake-clause-draining c =
    let first = c.in-Some.ensures.first in
    draining_woken c.args.wakes.now c.args.store.now c.changes.store c.args.agenda.now c.changes.agenda c.wake.new.agenda c.in-Some.variable c.mark.result first.0 c.changes.invariant first.1 c.mark.ensures
    c.wake.ensures.woken
