use Rattle.fz_refutes.proofs.Soundness.{refuted_has_none}
use Rattle.fz_refutes.proofs.laws.refuted_has_none.Goals as goal

pub returns : goal.returns
returns c = refuted_has_none
