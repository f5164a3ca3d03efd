use Rattle.fz_tree.proofs.Books.{closed_lists_rows}
use Rattle.fz_tree.proofs.laws.closed_lists_rows.Goals as goal

pub returns : goal.returns
returns c = closed_lists_rows
