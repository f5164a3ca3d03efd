use Rattle.std.proofs.Common.{◌≡◌, take, map}
use Rattle.fz_model.specs.Arguments.{argument_of}
use Rattle.fz_model.proofs.constraint.same_arguments.Given as goal

-- those so far are the same
abbrev pub invariant-loop-i : goal.invariant-loop-i
invariant-loop-i l = map argument_of (take l.i l.these) ≡ map argument_of (take l.i l.those)
