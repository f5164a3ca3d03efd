use Rattle.fz_bits.proofs.Words.{bit_less, falls}
use Rattle.fz_bits.proofs.word.without_bit.Goals as goal

pub returns-clause-ones : goal.returns-clause-ones
returns-clause-ones c = bit_less c.args.word c.args.place c.requires

pub returns-clause-falls : goal.returns-clause-falls
returns-clause-falls c = falls c.args.word c.args.place c.requires
