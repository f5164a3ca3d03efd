use Rattle.fz_tree.proofs.Cuts.{cut_parts}
use Rattle.fz_tree.proofs.laws.cut_is_in_parts.Goals as goal

pub returns : goal.returns
returns c = cut_parts
