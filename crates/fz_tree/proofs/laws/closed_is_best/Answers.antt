use Rattle.fz_tree.proofs.Books.{closed_is_best}
use Rattle.fz_tree.proofs.laws.closed_is_best.Goals as goal

pub returns : goal.returns
returns c = closed_is_best
