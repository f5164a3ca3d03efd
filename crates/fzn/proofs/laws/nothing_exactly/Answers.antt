use Rattle.fzn.proofs.Whole.{nothing_exactly}
use Rattle.fzn.proofs.laws.nothing_exactly.Goals as goal

pub returns : goal.returns
returns c = nothing_exactly
