use Rattle.fz_tree.proofs.Choices.{pair_is_choice}
use Rattle.fz_tree.proofs.laws.pair_is_choice.Goals as goal

pub returns : goal.returns
returns c = pair_is_choice
