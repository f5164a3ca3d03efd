use Rattle.fzn.proofs.Blocks.{blocks_are_rows}
use Rattle.fzn.proofs.laws.blocks_are_rows.Goals as goal

pub returns : goal.returns
returns c = blocks_are_rows
