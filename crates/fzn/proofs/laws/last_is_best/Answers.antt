use Rattle.fzn.proofs.Whole.{last_is_best}
use Rattle.fzn.proofs.laws.last_is_best.Goals as goal

pub returns : goal.returns
returns c = last_is_best
