use Rattle.fz_language.proofs.TokenProofs as laws
use Rattle.fz_language.proofs.laws.tokens_are_one.Goals as goal

pub returns : goal.returns
returns c = laws.tokens_are_one
