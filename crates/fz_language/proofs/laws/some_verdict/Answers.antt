use Rattle.fz_language.proofs.SyntaxProofs as laws
use Rattle.fz_language.proofs.laws.some_verdict.Goals as goal

pub returns : goal.returns
returns c = laws.some_verdict_is
