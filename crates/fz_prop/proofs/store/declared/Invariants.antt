use Rattle.std.proofs.Common.{◌≡◌, take}
use Rattle.fz_strength.specs.Domains.{AreDomains}
use Rattle.fz_prop.specs.Stores.{declared_sets}
use Rattle.fz_prop.proofs.store.declared.Given as goal

-- the sets so far are copied, and have numbers
abbrev pub invariant-loop-variable : goal.invariant-loop-variable
invariant-loop-variable l = record { same : l.doms.items ≡ declared_sets (take l.variable-index l.variables); domains : AreDomains l.doms.items }
