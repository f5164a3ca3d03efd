use Rattle.fz_says.proofs.Fitting.{said_fits}
use Rattle.fz_says.proofs.laws.said_fits.Goals as goal

pub returns : goal.returns
returns c = said_fits
