use Rattle.fz_language.proofs.SomeTokens as laws
use Rattle.fz_language.proofs.laws.some_tokens.Goals as goal

pub returns : goal.returns
returns c = laws.some_tokens
