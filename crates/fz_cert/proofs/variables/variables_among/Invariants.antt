use Rattle.std.proofs.Common.{◌≡◌, take}
use Rattle.std.specs.Prelude.{flat_map}
use Rattle.fz_refutes.specs.Refuted.{variable_of}
use Rattle.fz_cert.proofs.variables.variables_among.Given as goal

-- the variables so far
abbrev pub invariant-loop-term : goal.invariant-loop-term
invariant-loop-term l = l.variables.items ≡ flat_map variable_of (take l.term-index l.terms)
