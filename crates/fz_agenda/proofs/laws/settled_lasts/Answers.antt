use Rattle.fz_agenda.proofs.Settled.{settled_lasts}
use Rattle.fz_agenda.proofs.laws.settled_lasts.Goals as goal

pub returns : goal.returns
returns c = settled_lasts
