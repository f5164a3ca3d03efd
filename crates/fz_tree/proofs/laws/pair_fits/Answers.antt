use Rattle.fz_tree.proofs.Places.{pair_fits}
use Rattle.fz_tree.proofs.laws.pair_fits.Goals as goal

pub returns : goal.returns
returns c = pair_fits
