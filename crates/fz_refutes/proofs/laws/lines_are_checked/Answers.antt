use Rattle.fz_refutes.proofs.Preorder.{lines_are_checked}
use Rattle.fz_refutes.proofs.laws.lines_are_checked.Goals as goal

pub returns : goal.returns
returns c = lines_are_checked
