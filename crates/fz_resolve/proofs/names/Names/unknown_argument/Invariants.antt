use Rattle.fz_language.specs.Rules.{unknown_of}
use Rattle.fz_syntax.specs.Trees.{expression_of}
use Rattle.fz_resolve.specs.Meant.{environment_of}
use Rattle.fz_syntax.proofs.Firsts.{IsNoneSoFar}
use Rattle.fz_resolve.proofs.names.Names.unknown_argument.Given as goal

-- all names so far are declared
abbrev pub invariant-loop-argument : goal.invariant-loop-argument
invariant-loop-argument l = IsNoneSoFar (unknown_of (environment_of l.self)) expression_of l.arguments l.argument-index
