use Rattle.std.proofs.Common.{◌≡◌, ◌<◌, length, take}
use Rattle.std.specs.List.{AllByRecursion, filter}
use Rattle.fz_spec.specs.Instance.{Instance}
use Rattle.fz_tree.specs.Rows.{is_shown}
use Rattle.fz_branch.specs.Shown.{AreTheShown}
use Rattle.fz_branch.proofs.shown.only.Given as goal

-- those so far
abbrev pub invariant-loop-variable : goal.invariant-loop-variable
invariant-loop-variable l = (m : Instance) → AreTheShown m l.shown → AllByRecursion (λ v. v < length m.variables) l.variables → l.kept.items ≡ filter (is_shown m) (take l.variable-index l.variables)
