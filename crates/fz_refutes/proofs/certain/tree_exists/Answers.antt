use Rattle.fz_refutes.proofs.Growing.{tree_exists}
use Rattle.fz_refutes.proofs.certain.tree_exists.Goals as goal

pub returns : goal.returns
returns c = tree_exists
