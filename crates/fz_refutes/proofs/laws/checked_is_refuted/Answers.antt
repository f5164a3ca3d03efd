use Rattle.fz_refutes.proofs.Preorder.{checked_is_refuted}
use Rattle.fz_refutes.proofs.laws.checked_is_refuted.Goals as goal

pub returns : goal.returns
returns c = checked_is_refuted
