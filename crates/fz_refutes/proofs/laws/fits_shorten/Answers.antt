use Rattle.fz_refutes.proofs.Shrinking.{fits_shorten}
use Rattle.fz_refutes.proofs.laws.fits_shorten.Goals as goal

pub returns : goal.returns
returns c = fits_shorten
