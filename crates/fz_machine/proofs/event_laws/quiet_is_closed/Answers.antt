use Rattle.fz_machine.proofs.Ends.{closes}
use Rattle.fz_machine.proofs.event_laws.quiet_is_closed.Goals as goal

pub returns : goal.returns
returns c = closes
