use Rattle.fz_machine.proofs.Order.{open_is_held}
use Rattle.fz_machine.proofs.event_laws.open_is_held.Goals as goal

pub returns : goal.returns
returns c = open_is_held
