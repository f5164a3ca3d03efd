use Rattle.fz_spec.specs.declared.term.Term.TheVariants.{Num}
use Rattle.std.specs.Prelude.{pos, false}
use Rattle.fz_agenda.specs.Wakes.{watch}
use Rattle.fz_agenda.proofs.Looking.{watching_woken, watching_awake}
use Rattle.fz_agenda.proofs.watches.wake_watching.Goals as goal

pub returns-in_err-wake_watcher-clause-woken : goal.returns-in_err-wake_watcher-clause-woken
returns-in_err-wake_watcher-clause-woken c =
    watching_woken c.args.store.now.doms c.args.watches.now c.loop-watch.watch-index (watch 0 (Num (pos 0)) (pos 0) false) c.args.costs.now c.args.agenda.now c.loop-watch.agenda c.wake_watcher.new.agenda c.loop-watch-test.true
    c.loop-watch.invariant.woken c.wake_watcher.ensures.woken

pub loop-watch-preserved : goal.loop-watch-preserved
loop-watch-preserved c =
    let ds = c.args.store.now.doms in
    let watches = c.args.watches.now in
    let k = c.loop-watch.watch-index in
    let none = watch 0 (Num (pos 0)) (pos 0) false in
    record {
      woken = watching_woken ds watches k none c.args.costs.now c.args.agenda.now c.loop-watch.agenda c.wake_watcher.new.agenda c.loop-watch-test.true c.loop-watch.invariant.woken c.wake_watcher.ensures.woken;
      awake = watching_awake ds watches k none c.args.costs.now c.loop-watch.agenda c.wake_watcher.new.agenda c.loop-watch-test.true c.wake_watcher.ensures.woken c.loop-watch.invariant.awake
          c.in_ok-wake_watcher.ensures.awake;
    }
