use Rattle.std.proofs.Common.{take}
use Rattle.std.specs.Prelude.{ℤ, ◌≤ℤ◌}
use Rattle.std.specs.List.{AllByRecursion}
use Rattle.fz_cumulative.proofs.finding.are_within.Given as goal

-- those so far are within the bound
abbrev pub invariant-loop-i : goal.invariant-loop-i
invariant-loop-i l = AllByRecursion (λ (load : ℤ). load ≤ℤ l.bound) (take l.i l.loads)
