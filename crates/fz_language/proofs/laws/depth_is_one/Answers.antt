use Rattle.fz_language.proofs.SyntaxProofs as laws
use Rattle.fz_language.proofs.laws.depth_is_one.Goals as goal

pub returns : goal.returns
returns c = laws.depth_is_one
