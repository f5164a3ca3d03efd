use Rattle.std.proofs.Common.{rules}
use Rattle.std.proofs.Common.{rules}
use Rattle.fz_bits.proofs.Words.{without_bits}
use Rattle.fz_bits.proofs.word.without.Goals as goal

pub returns : goal.returns
returns c = λ i l. without_bits c.args.a c.args.b i (search rules) l
