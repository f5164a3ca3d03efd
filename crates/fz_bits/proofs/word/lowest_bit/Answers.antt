use Rattle.fz_bits.proofs.Words.{first_bit}
use Rattle.fz_bits.proofs.word.lowest_bit.Goals as goal

pub returns-clause-bit : goal.returns-clause-bit
returns-clause-bit c = (first_bit c.args.word c.requires c.ranges.word.fits).1

pub returns-clause-none_before : goal.returns-clause-none_before
returns-clause-none_before c = (first_bit c.args.word c.requires c.ranges.word.fits).2
