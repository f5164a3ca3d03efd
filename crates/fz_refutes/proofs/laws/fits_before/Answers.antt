use Rattle.fz_refutes.proofs.Making.{fits_before}
use Rattle.fz_refutes.proofs.laws.fits_before.Goals as goal

pub returns : goal.returns
returns c = fits_before
