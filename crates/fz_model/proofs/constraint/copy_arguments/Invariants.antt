use Rattle.std.proofs.Common.{◌≡◌, take, map}
use Rattle.fz_model.specs.Arguments.{argument_of}
use Rattle.fz_model.proofs.constraint.copy_arguments.Given as goal

-- those so far are copied
abbrev pub invariant-loop-argument : goal.invariant-loop-argument
invariant-loop-argument l = map argument_of l.copies.items ≡ map argument_of (take l.argument-index l.arguments)
