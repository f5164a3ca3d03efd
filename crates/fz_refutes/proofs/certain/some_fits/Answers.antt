use Rattle.fz_refutes.proofs.Fitting.{some_fits}
use Rattle.fz_refutes.proofs.certain.some_fits.Goals as goal

pub returns : goal.returns
returns c = some_fits
