use Rattle.fz_says.proofs.Suiting.{fit_suits}
use Rattle.fz_says.proofs.laws.fit_suits.Goals as goal

pub returns : goal.returns
returns c = fit_suits
