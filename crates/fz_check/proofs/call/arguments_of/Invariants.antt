use Rattle.std.proofs.Common.{map}
use Rattle.fz_model.specs.Arguments.{argument_of}
use Rattle.fz_syntax.specs.Trees.{expression_of}
use Rattle.fz_resolve.specs.Meant.{environment_of}
use Rattle.fz_check.proofs.CallLaws.{SoFar}
use Rattle.fz_check.proofs.call.arguments_of.Given as goal

-- those of the expressions so far
abbrev pub invariant-loop-i : goal.invariant-loop-i
invariant-loop-i l = SoFar (environment_of l.names) expression_of l.signature l.expressions l.i (map argument_of l.arguments.items)
