use Rattle.fz_bits.proofs.Words.{raised_bits}
use Rattle.fz_bits.proofs.word.raised.Goals as goal

pub returns : goal.returns
returns c = λ i l. raised_bits c.args.word c.args.by i c.requires l
