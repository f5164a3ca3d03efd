use Rattle.std.proofs.Common.{ap, sym}
use Rattle.fz_machine.specs.Lawfulness.{can_be_cut}
use Rattle.fz_machine.proofs.Tests.{none_there}
use Rattle.fz_machine.proofs.slot.can_be_cut.Goals as goal

pub returns-in-None : goal.returns-in-None
returns-in-None g c = sym (ap can_be_cut (none_there c.args.workers.now c.args.worker c.in-None.ensures.lookup.0))
