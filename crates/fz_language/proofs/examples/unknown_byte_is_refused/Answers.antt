use Rattle.fz_language.proofs.TextExamples as examples
use Rattle.fz_language.proofs.examples.unknown_byte_is_refused.Goals as goal

pub returns : goal.returns
returns c = examples.unknown_byte_is_refused
