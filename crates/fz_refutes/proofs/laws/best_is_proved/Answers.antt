use Rattle.fz_refutes.proofs.Soundness.{best_is_proved}
use Rattle.fz_refutes.proofs.laws.best_is_proved.Goals as goal

pub returns : goal.returns
returns c = best_is_proved
