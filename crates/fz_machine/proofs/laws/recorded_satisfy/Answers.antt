use Rattle.fz_machine.proofs.Assets.{reached_law, recorded_satisfy}
use Rattle.fz_machine.proofs.laws.recorded_satisfy.Goals as goal

pub returns : goal.returns
returns c = λ p k s reaches at. recorded_satisfy p k s (reached_law p reaches) at
