use Rattle.fz_tree.proofs.Measures.{moved_keeps}
use Rattle.fz_tree.proofs.laws.moving_keeps.Goals as goal

pub returns : goal.returns
returns c = moved_keeps
