use Rattle.fz_cert.proofs.Guessing.{value_of, limited_value}
use Rattle.fz_cert.proofs.guess.next_value.Goals as goal

pub returns-in_default-integer-clause-value : goal.returns-in_default-integer-clause-value
returns-in_default-integer-clause-value c = λ n rest limits ends is.
    absurd (c.in_default-integer.not-Some n (value_of c.args.text.now c.in-Some.later.now c.split_word.result.0.now c.split_word.result.1.now n rest c.integer.result limits ends is c.in-Some.ensures.some c.split_word.ensures.word c.integer.ensures).0)

pub returns-clause-value : goal.returns-clause-value
returns-clause-value c = λ n rest limits ends is.
    let both = value_of c.args.text.now c.in-Some.later.now c.split_word.result.0.now c.split_word.result.1.now n rest c.integer.result limits ends is c.in-Some.ensures.some c.split_word.ensures.word c.integer.ensures in
    (limited_value n c.in-Some-integer.number c.limited.result c.integer.result limits c.in-Some-integer.is both.0 c.limited.ensures.same, both.1)
