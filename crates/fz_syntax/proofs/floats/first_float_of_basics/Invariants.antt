use Rattle.fz_language.specs.Numerals.{floats_in}
use Rattle.fz_syntax.specs.Trees.{basic_of}
use Rattle.fz_syntax.proofs.Firsts.{IsNoneSoFar}
use Rattle.fz_syntax.proofs.floats.first_float_of_basics.Given as goal

-- no float so far
abbrev pub invariant-loop-basic : goal.invariant-loop-basic
invariant-loop-basic l = IsNoneSoFar floats_in basic_of l.basics l.basic-index
