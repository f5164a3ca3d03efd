use Rattle.fz_language.specs.Rules.{unknown_in}
use Rattle.fz_syntax.specs.Trees.{basic_of}
use Rattle.fz_resolve.specs.Meant.{environment_of}
use Rattle.fz_syntax.proofs.Firsts.{IsNoneSoFar}
use Rattle.fz_resolve.proofs.names.Names.unknown_basic.Given as goal

-- all names so far are declared
abbrev pub invariant-loop-basic : goal.invariant-loop-basic
invariant-loop-basic l = IsNoneSoFar (unknown_in (environment_of l.self)) basic_of l.basics l.basic-index
