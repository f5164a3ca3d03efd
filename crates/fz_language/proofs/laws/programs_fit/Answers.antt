use Rattle.fz_language.proofs.WithinProofs as laws
use Rattle.fz_language.proofs.laws.programs_fit.Goals as goal

pub returns : goal.returns
returns c = laws.programs_fit
