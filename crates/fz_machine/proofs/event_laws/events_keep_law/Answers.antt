use Rattle.fz_machine.proofs.Reaching.{reaches_law}
use Rattle.fz_machine.proofs.event_laws.events_keep_law.Goals as goal

pub returns : goal.returns
returns c = reaches_law
