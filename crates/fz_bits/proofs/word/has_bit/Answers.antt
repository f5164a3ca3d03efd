use Rattle.std.proofs.Common.{rules}
use Rattle.fz_bits.proofs.Words.{test_bit_of}
use Rattle.fz_bits.proofs.word.has_bit.Goals as goal

pub returns : goal.returns
returns c = test_bit_of c.args.word c.args.place (search rules)
