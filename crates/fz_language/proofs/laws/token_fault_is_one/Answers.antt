use Rattle.fz_language.proofs.TokenProofs as laws
use Rattle.fz_language.proofs.laws.token_fault_is_one.Goals as goal

pub returns : goal.returns
returns c = laws.token_fault_is_one
