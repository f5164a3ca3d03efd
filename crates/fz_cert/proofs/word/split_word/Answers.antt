use Rattle.fz_cert.proofs.Wording.{parted}
use Rattle.fz_cert.proofs.word.split_word.Goals as goal

pub returns : goal.returns
returns c = record {
  word = λ front rest all ends is. parted c.args.text.now front rest c.split_at.result.0.now c.split_at.result.1.now c.word_length.result is (c.word_length.ensures.length front rest all ends is) c.split_at.ensures.front c.split_at.ensures.back;
}
