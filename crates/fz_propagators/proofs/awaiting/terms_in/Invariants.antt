use Rattle.std.proofs.Common.{◌≡◌, map, take}
use Rattle.fz_model.specs.Arguments.{argument_of}
use Rattle.fz_spec.specs.Constraints.{terms_among}
use Rattle.fz_propagators.proofs.awaiting.terms_in.Given as goal

-- the terms of the arguments so far
abbrev pub invariant-loop-argument : goal.invariant-loop-argument
invariant-loop-argument l = l.terms.items ≡ terms_among (map argument_of (take l.argument-index l.arguments))
