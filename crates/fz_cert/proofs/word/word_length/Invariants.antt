use Rattle.std.specs.Prelude.{take}
use Rattle.std.specs.List.{AllByRecursion}
use Rattle.fz_cert.specs.Guesses.{IsInWord}
use Rattle.fz_cert.proofs.word.word_length.Given as goal

-- no byte so far ends a word
abbrev pub invariant-loop-i : goal.invariant-loop-i
invariant-loop-i l = AllByRecursion IsInWord (take l.i l.text)
