use Rattle.std.proofs.Common.{◌≡◌, take}
use Rattle.std.specs.Prelude.{flat_map}
use Rattle.fz_model.specs.Arguments.{argument_of}
use Rattle.fz_spec.specs.Constraints.{terms_of}
use Rattle.fz_cert.proofs.variables.terms_of.Given as goal

-- the terms so far
abbrev pub invariant-loop-argument : goal.invariant-loop-argument
invariant-loop-argument l = l.terms.items ≡ flat_map (λ a. terms_of (argument_of a)) (take l.argument-index l.arguments)
