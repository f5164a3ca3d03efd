use Rattle.fzn.proofs.Whole.{all_are_one}
use Rattle.fzn.proofs.laws.all_are_one.Goals as goal

pub returns : goal.returns
returns c = all_are_one
