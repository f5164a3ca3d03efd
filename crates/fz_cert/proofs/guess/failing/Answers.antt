use Rattle.std.specs.Prelude.{decimal}
use Rattle.fz_cert.proofs.Wording.{decimal_word}
use Rattle.fz_cert.proofs.Guessing.{failing_of}
use Rattle.fz_cert.proofs.guess.failing.Goals as goal

pub returns-in_default : goal.returns-in_default
returns-in_default c = λ n rest small ends is. absurd (c.in_default.not-Some n (c.natural.ensures n small (c.split_word.ensures.word (decimal n) rest (decimal_word n small) ends is).0))

pub returns : goal.returns
returns c = λ n rest small ends is. failing_of n c.in-Some.constraint c.natural.result c.in-Some.is (c.natural.ensures n small (c.split_word.ensures.word (decimal n) rest (decimal_word n small) ends is).0)
