use Rattle.fzn.proofs.Whole.{blocks_satisfy}
use Rattle.fzn.proofs.laws.blocks_satisfy.Goals as goal

pub returns : goal.returns
returns c = blocks_satisfy
