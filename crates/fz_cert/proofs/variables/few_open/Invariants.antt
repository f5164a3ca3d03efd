use Rattle.fz_cert.proofs.Counting.{AreFew}
use Rattle.fz_cert.proofs.variables.few_open.Given as goal

-- what was found so far, and its choices
abbrev pub invariant-loop-variable : goal.invariant-loop-variable
invariant-loop-variable l = AreFew l.area l.variables l.several.items l.variable-index l.choices
