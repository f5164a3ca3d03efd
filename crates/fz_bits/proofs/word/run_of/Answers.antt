use Rattle.fz_bits.proofs.Words.{run_bits}
use Rattle.fz_bits.proofs.word.run_of.Goals as goal

pub returns : goal.returns
returns c = λ i l. run_bits c.args.first c.args.last i c.requires.first c.requires.last l
