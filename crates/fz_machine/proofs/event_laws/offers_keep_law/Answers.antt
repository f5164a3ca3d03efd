use Rattle.fz_machine.proofs.Reaching.{offer_keeps}
use Rattle.fz_machine.proofs.event_laws.offers_keep_law.Goals as goal

pub returns : goal.returns
returns c = offer_keeps
