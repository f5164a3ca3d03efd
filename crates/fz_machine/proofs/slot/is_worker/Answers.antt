use Rattle.fz_machine.proofs.Tests.{has_number}
use Rattle.fz_machine.proofs.slot.is_worker.Goals as goal

pub returns : goal.returns
returns g c = has_number c.args.workers.now c.args.worker
