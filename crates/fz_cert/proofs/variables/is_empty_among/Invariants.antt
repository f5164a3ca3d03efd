use Rattle.std.proofs.Common.{take}
use Rattle.fz_refutes.specs.Refuted.{IsEmptyAmong}
use Rattle.fz_cert.proofs.variables.is_empty_among.Given as goal

-- none so far is empty
abbrev pub invariant-loop-variable : goal.invariant-loop-variable
invariant-loop-variable l = IsEmptyAmong l.area (take l.variable-index l.variables) → ⊥
