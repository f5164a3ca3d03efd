use Rattle.fz_language.proofs.SyntaxProofs as laws
use Rattle.fz_language.proofs.laws.spelling_is_one.Goals as goal

pub returns : goal.returns
returns c = laws.spelling_is_one
