use Rattle.fz_prop.proofs.Twice.{shrinks_twice}
use Rattle.fz_agenda.proofs.laws.shrinks_twice.Goals as goal

pub returns : goal.returns
returns c = shrinks_twice
