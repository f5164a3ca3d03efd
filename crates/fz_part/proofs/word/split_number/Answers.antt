use Rattle.fz_part.proofs.Wording.{parted}
use Rattle.fz_part.proofs.word.split_number.Goals as goal

pub returns-clause-number : goal.returns-clause-number
returns-clause-number c = λ front rest all ends is. parted c.args.text.now front rest c.split_at.result.0.now c.split_at.result.1.now c.number_length.result is (c.number_length.ensures.length front rest all ends is) c.split_at.ensures.front c.split_at.ensures.back
