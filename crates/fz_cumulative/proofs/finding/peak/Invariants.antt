use Rattle.std.proofs.Common.{take}
use Rattle.std.specs.Prelude.{ℤ, pos, ◌≤ℤ◌}
use Rattle.std.specs.List.{AllByRecursion}
use Rattle.fz_cumulative.proofs.finding.peak.Given as goal

-- it is above those so far
abbrev pub invariant-loop-i : goal.invariant-loop-i
invariant-loop-i l = record { above : AllByRecursion (λ (load : ℤ). load ≤ℤ l.peak) (take l.i l.loads); positive : pos 0 ≤ℤ l.peak; least : (bound : ℤ) → pos 0 ≤ℤ bound → AllByRecursion (λ (load : ℤ). load ≤ℤ bound) l.loads → l.peak ≤ℤ bound }
