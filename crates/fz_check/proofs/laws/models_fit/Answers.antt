use Rattle.fz_check.proofs.ModelFits.{models_fit}
use Rattle.fz_check.proofs.laws.models_fit.Goals as goal

pub returns : goal.returns
returns c = models_fit
