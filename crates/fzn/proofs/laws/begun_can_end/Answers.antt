use Rattle.fzn.proofs.BegunEndings.{can_end}
use Rattle.fzn.proofs.laws.begun_can_end.Goals as goal

pub returns : goal.returns
returns c = can_end
