use Rattle.std.proofs.Common.{None, ap}
use Rattle.fz_path.specs.Paths.{Pathed, bare}
use Rattle.fz_machine.specs.Cores.{Worker}
use Rattle.fz_machine.proofs.Tests.{one_more, as_many}
use Rattle.fz_machine.proofs.slot.slots_beside.Goals as goal

pub loop-worker-preserved : goal.loop-worker-preserved
loop-worker-preserved g c =
    let w : Worker = record { path = bare c.args.path.now; hand = None } in
    let made : Pathed → Worker = λ p. record { path = p; hand = None } in
    one_more c.loop-worker._worker w _ c.loop-worker.slots.items c.push.new.self.items c.in_ok-push.ensures.items c.loop-worker.invariant (ap made c.in_ok-beside.ensures.path)

pub returns : goal.returns
returns g c =
    let w : Worker = record { path = bare c.args.path.now; hand = None } in
    as_many c.args.workers c.loop-worker._worker w c.loop-worker.slots.items c.loop-worker.invariant c.loop-worker-test.false c.loop-worker.auto._worker-end
