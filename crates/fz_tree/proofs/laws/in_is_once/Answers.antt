use Rattle.fz_tree.proofs.Times.{in_once}
use Rattle.fz_tree.proofs.laws.in_is_once.Goals as goal

pub returns : goal.returns
returns c = in_once
