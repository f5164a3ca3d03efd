use Rattle.fz_bits.proofs.Words.{or_bits}
use Rattle.fz_bits.proofs.word.either.Goals as goal

pub returns : goal.returns
returns c = λ i l. or_bits c.args.a c.args.b i
