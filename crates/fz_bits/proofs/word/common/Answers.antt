use Rattle.fz_bits.proofs.Words.{and_bits}
use Rattle.fz_bits.proofs.word.common.Goals as goal

pub returns : goal.returns
returns c = λ i l. and_bits c.args.a c.args.b i
