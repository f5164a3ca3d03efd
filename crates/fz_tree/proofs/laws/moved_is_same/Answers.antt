use Rattle.fz_tree.proofs.Places.{moved_is_same}
use Rattle.fz_tree.proofs.laws.moved_is_same.Goals as goal

pub returns : goal.returns
returns c = moved_is_same
