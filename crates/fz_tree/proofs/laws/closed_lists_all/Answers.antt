use Rattle.fz_tree.proofs.Books.{closed_lists}
use Rattle.fz_tree.proofs.laws.closed_lists_all.Goals as goal

pub returns : goal.returns
returns c = closed_lists
