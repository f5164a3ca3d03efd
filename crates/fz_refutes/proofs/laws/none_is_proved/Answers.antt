use Rattle.fz_refutes.proofs.Soundness.{none_is_proved}
use Rattle.fz_refutes.proofs.laws.none_is_proved.Goals as goal

pub returns : goal.returns
returns c = none_is_proved
