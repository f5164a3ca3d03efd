use Rattle.std.proofs.Common.{ap, sym}
use Rattle.fz_path.specs.Paths.{bare}
use Rattle.fz_machine.specs.Lawfulness.{is_busy}
use Rattle.fz_machine.proofs.Tests.{none_there, busy_read}
use Rattle.fz_machine.proofs.slot.is_busy.Goals as goal

pub returns-in-Some : goal.returns-in-Some
returns-in-Some g c = busy_read c.args.workers.now c.args.worker (bare c.slot.inside.path) c.slot.inside.hand c.in-Some.slot.now c.in-Some.ensures.lookup.0 c.in-Some.ensures.lookup.1 c.slot.view_is c.is_idle.result c.is_idle.ensures

pub returns-in-None : goal.returns-in-None
returns-in-None g c = sym (ap is_busy (none_there c.args.workers.now c.args.worker c.in-None.ensures.lookup.0))
