use Rattle.fz_tree.proofs.Rows.{below_alike}
use Rattle.fz_tree.proofs.laws.row_is_in_alike.Goals as goal

pub returns : goal.returns
returns c = λ m f a x about of_a of_x row. below_alike m a x of_a of_x row f.edges f.current_open about
