use Rattle.fz_tree.proofs.Measures.{cut_adds_up}
use Rattle.fz_tree.proofs.laws.cutting_divides.Goals as goal

pub returns : goal.returns
returns c = cut_adds_up
