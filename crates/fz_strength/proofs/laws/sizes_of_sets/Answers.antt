use Rattle.fz_strength.proofs.Sizes.{sizes_of_sets}
use Rattle.fz_strength.proofs.laws.sizes_of_sets.Goals as goal

pub returns : goal.returns
returns c = sizes_of_sets
