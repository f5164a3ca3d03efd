use Rattle.fz_part.proofs.Wording.{ends_here, whole_number}
use Rattle.fz_part.proofs.word.number_length.Goals as goal

pub returns-then-not-is_of_number-clause-length : goal.returns-then-not-is_of_number-clause-length
returns-then-not-is_of_number-clause-length c = λ front rest all ends is. ends_here c.args.text.now front rest c.loop-i.i 0 all ends is c.loop-i.invariant c.loop-i-test.true (λ h. let yes = c.is_of_number.ensures.1 h in cc)

pub returns-clause-length : goal.returns-clause-length
returns-clause-length c = λ front rest all ends is. whole_number c.args.text.now front rest c.loop-i.i all ends is c.loop-i-test.false c.loop-i.invariant
