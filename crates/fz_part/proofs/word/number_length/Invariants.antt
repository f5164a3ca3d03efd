use Rattle.std.specs.Prelude.{take}
use Rattle.std.specs.List.{AllByRecursion}
use Rattle.fz_part.specs.Words.{IsOfNumber}
use Rattle.fz_part.proofs.word.number_length.Given as goal

-- each byte so far is of the number
abbrev pub invariant-loop-i : goal.invariant-loop-i
invariant-loop-i l = AllByRecursion IsOfNumber (take l.i l.text)
