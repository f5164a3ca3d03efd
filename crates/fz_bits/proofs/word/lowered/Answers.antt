use Rattle.fz_bits.proofs.Words.{lowered_iff}
use Rattle.fz_bits.proofs.word.lowered.Goals as goal

pub returns : goal.returns
returns c = λ i l. lowered_iff c.args.word c.args.by i
