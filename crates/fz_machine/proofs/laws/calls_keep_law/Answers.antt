use Rattle.fz_machine.proofs.Assets.{reached_law}
use Rattle.fz_machine.proofs.laws.calls_keep_law.Goals as goal

pub returns : goal.returns
returns c = reached_law
