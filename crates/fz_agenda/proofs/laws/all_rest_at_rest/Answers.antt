use Rattle.fz_agenda.proofs.Settled.{all_rest_at_rest}
use Rattle.fz_agenda.proofs.laws.all_rest_at_rest.Goals as goal

pub returns : goal.returns
returns c = all_rest_at_rest
