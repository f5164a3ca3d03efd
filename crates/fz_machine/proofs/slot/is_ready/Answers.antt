use Rattle.std.proofs.Common.{ap, sym}
use Rattle.fz_path.specs.Paths.{bare}
use Rattle.fz_machine.specs.Lawfulness.{is_ready}
use Rattle.fz_machine.proofs.Tests.{none_there, ready_read, held_not_ready}
use Rattle.fz_machine.proofs.slot.is_ready.Goals as goal

pub returns-then-is_idle : goal.returns-then-is_idle
returns-then-is_idle g c = ready_read c.args.workers.now c.args.worker (bare c.slot.inside.path) c.slot.inside.hand c.in-Some.slot.now c.in-Some.ensures.lookup.0 c.in-Some.ensures.lookup.1 c.slot.view_is c.is_idle.result c.is_some.result c.is_idle.ensures c.if-is_idle.true c.is_some.ensures

pub returns-else-is_idle : goal.returns-else-is_idle
returns-else-is_idle g c = held_not_ready c.args.workers.now c.args.worker (bare c.slot.inside.path) c.slot.inside.hand c.in-Some.slot.now c.in-Some.ensures.lookup.0 c.in-Some.ensures.lookup.1 c.slot.view_is c.is_idle.result c.is_idle.ensures c.if-is_idle.false

pub returns-in-None : goal.returns-in-None
returns-in-None g c = sym (ap is_ready (none_there c.args.workers.now c.args.worker c.in-None.ensures.lookup.0))
