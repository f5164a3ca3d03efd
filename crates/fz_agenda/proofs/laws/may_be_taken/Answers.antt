use Rattle.fz_agenda.proofs.Settled.{may_be_taken}
use Rattle.fz_agenda.proofs.laws.may_be_taken.Goals as goal

pub returns : goal.returns
returns c = may_be_taken
