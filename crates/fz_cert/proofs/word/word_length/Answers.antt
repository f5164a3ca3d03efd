use Rattle.fz_cert.proofs.Wording.{ends_here, whole_word, all_beyond}
use Rattle.fz_cert.proofs.word.word_length.Goals as goal

pub returns-then-byte-le32-clause-length : goal.returns-then-byte-le32-clause-length
returns-then-byte-le32-clause-length c = λ front rest all ends is. ends_here c.args.text.now front rest c.loop-i.i 0 all ends is c.loop-i.invariant c.loop-i-test.true c.if-byte-le32.true

pub returns-clause-length : goal.returns-clause-length
returns-clause-length c = λ front rest all ends is. whole_word c.args.text.now front rest all ends is (all_beyond c.args.text.now c.loop-i.i c.loop-i-test.false c.loop-i.invariant)
