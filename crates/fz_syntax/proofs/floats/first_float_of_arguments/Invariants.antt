use Rattle.fz_language.specs.Rules.{floats_of}
use Rattle.fz_syntax.specs.Trees.{expression_of}
use Rattle.fz_syntax.proofs.Firsts.{IsNoneSoFar}
use Rattle.fz_syntax.proofs.floats.first_float_of_arguments.Given as goal

-- no float so far
abbrev pub invariant-loop-argument : goal.invariant-loop-argument
invariant-loop-argument l = IsNoneSoFar floats_of expression_of l.arguments l.argument-index
