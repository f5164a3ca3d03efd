use Rattle.std.specs.Arc.{arc_value}
use Rattle.fz_machine.specs.Cores.{idle}
use Rattle.fz_machine.proofs.Tests.{one_more, as_many}
use Rattle.fz_machine.proofs.slot.idle_slots.Goals as goal

pub loop-worker-preserved : goal.loop-worker-preserved
loop-worker-preserved g c =
    one_more c.loop-worker._worker (idle (arc_value c.args.model.now) c.args.mode c.args.commit_distance c.args.adaptive_distance) c.in_ok-idle.field-0 c.loop-worker.slots.items c.push.new.self.items
    c.in_ok-push.ensures.items c.loop-worker.invariant c.in_ok-idle.ensures

pub returns : goal.returns
returns g c =
    as_many c.args.workers c.loop-worker._worker (idle (arc_value c.args.model.now) c.args.mode c.args.commit_distance c.args.adaptive_distance) c.loop-worker.slots.items
    c.loop-worker.invariant c.loop-worker-test.false c.loop-worker.auto._worker-end
