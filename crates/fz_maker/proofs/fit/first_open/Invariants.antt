use Rattle.std.proofs.Common.{ℕ, ◌<◌}
use Rattle.fz_refutes.specs.Trees.{IsOpen}
use Rattle.fz_maker.proofs.fit.first_open.Given as goal

-- none so far is open
abbrev pub invariant-loop-variable : goal.invariant-loop-variable
invariant-loop-variable l = (u : ℕ) → u < l.variable → IsOpen l.area u → ⊥
