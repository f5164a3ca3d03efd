use Rattle.fz_agenda.proofs.Settled.{may_be_gone}
use Rattle.fz_agenda.proofs.laws.may_be_gone.Goals as goal

pub returns : goal.returns
returns c = may_be_gone
