use Rattle.fz_bits.proofs.Words.{bit_more}
use Rattle.fz_bits.proofs.word.with_bit.Goals as goal

pub returns : goal.returns
returns c = bit_more c.args.word c.args.place c.requires
