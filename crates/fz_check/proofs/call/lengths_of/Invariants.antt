use Rattle.std.proofs.Common.{◌≡◌, take, map}
use Rattle.fz_model.specs.Arguments.{argument_of}
use Rattle.fz_check.proofs.call.lengths_of.Given as goal
use Rattle.fz_spec.specs.Constraints.{list_lengths}

-- those of the arguments so far
abbrev pub invariant-loop-argument : goal.invariant-loop-argument
invariant-loop-argument l = l.lengths.items ≡ list_lengths (map argument_of (take l.argument-index l.arguments))
