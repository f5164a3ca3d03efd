use Rattle.fz_cert.proofs.Guessing.{first_number, second_number, split_of}
use Rattle.fz_cert.proofs.guess.split.Goals as goal

pub returns-in_default : goal.returns-in_default
returns-in_default c = λ v n rest small word ends is. absurd (c.in_default.not-Some v (first_number c.args.text.now c.split_word.result.0.now c.split_word.result.1.now v n rest c.natural.result small is c.split_word.ensures.word c.natural.ensures).0)

pub returns-in_default-behind : goal.returns-in_default-behind
returns-in_default-behind c = λ v n rest small word ends is. absurd (c.in_default-behind.ensures.none _ (first_number c.args.text.now c.split_word.result.0.now c.split_word.result.1.now v n rest c.natural.result small is c.split_word.ensures.word c.natural.ensures).1)

pub returns-in_default-integer : goal.returns-in_default-integer
returns-in_default-integer c = λ v n rest small word ends is.
    let first = first_number c.args.text.now c.split_word.result.0.now c.split_word.result.1.now v n rest c.natural.result small is c.split_word.ensures.word c.natural.ensures in
    absurd (c.in_default-integer.not-Some n (second_number c.split_word.result.1.now c.in-Some-behind.later.now c.split_word-2.result.0.now c.split_word-2.result.1.now n rest c.integer.result word ends first.1 c.in-Some-behind.ensures.some c.split_word-2.ensures.word c.integer.ensures))

pub returns : goal.returns
returns c = λ v n rest small word ends is.
    let first = first_number c.args.text.now c.split_word.result.0.now c.split_word.result.1.now v n rest c.natural.result small is c.split_word.ensures.word c.natural.ensures in
    split_of v n c.in-Some.variable c.in-Some-integer.number c.natural.result c.integer.result word c.in-Some.is c.in-Some-integer.is first.0
    (second_number c.split_word.result.1.now c.in-Some-behind.later.now c.split_word-2.result.0.now c.split_word-2.result.1.now n rest c.integer.result word ends first.1 c.in-Some-behind.ensures.some c.split_word-2.ensures.word c.integer.ensures)
