use Rattle.fzn.proofs.Whole.{blocks_differ}
use Rattle.fzn.proofs.laws.blocks_differ.Goals as goal

pub returns : goal.returns
returns c = blocks_differ
