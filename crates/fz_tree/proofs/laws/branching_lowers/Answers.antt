use Rattle.fz_tree.proofs.Measures.{branched_lowers}
use Rattle.fz_tree.proofs.laws.branching_lowers.Goals as goal

pub returns : goal.returns
returns c = branched_lowers
