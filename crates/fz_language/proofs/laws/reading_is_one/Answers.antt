use Rattle.fz_language.proofs.ReadProofs as laws
use Rattle.fz_language.proofs.laws.reading_is_one.Goals as goal

pub returns : goal.returns
returns c = laws.reading_is_one
