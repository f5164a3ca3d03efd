use Rattle.std.proofs.Common.{take}
use Rattle.fz_cert.proofs.Fixing.{AreFixed}
use Rattle.fz_cert.proofs.variables.fix.Given as goal

-- those so far have their numbers
abbrev pub invariant-loop-variable : goal.invariant-loop-variable
invariant-loop-variable l = AreFixed l.area l.values.items (take l.variable-index l.variables)
