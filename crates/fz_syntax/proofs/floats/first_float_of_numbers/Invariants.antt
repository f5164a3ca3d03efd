use Rattle.fz_language.specs.Numerals.{float_places}
use Rattle.fz_syntax.specs.Trees.{number_of}
use Rattle.fz_syntax.proofs.Firsts.{IsNoneSoFar}
use Rattle.fz_syntax.proofs.floats.first_float_of_numbers.Given as goal

-- no float so far
abbrev pub invariant-loop-number : goal.invariant-loop-number
invariant-loop-number l = IsNoneSoFar float_places number_of l.numbers l.number-index
