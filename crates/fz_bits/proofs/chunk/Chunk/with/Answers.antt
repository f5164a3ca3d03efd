use Rattle.fz_bits.proofs.Members.{one_more}
use Rattle.fz_bits.proofs.chunk.Chunk.with.Goals as goal

pub returns-clause-numbers : goal.returns-clause-numbers
returns-clause-numbers c = λ i. one_more c.args.self.word c.args.self.bits c.with_bit.result c.args.number i c.requires c.with_bit.ensures
