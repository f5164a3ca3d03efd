use Rattle.fz_tree.proofs.Measures.{closed_lowers}
use Rattle.fz_tree.proofs.laws.closing_lowers.Goals as goal

pub returns : goal.returns
returns c = closed_lowers
