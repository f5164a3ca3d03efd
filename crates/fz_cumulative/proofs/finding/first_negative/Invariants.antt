use Rattle.std.proofs.Common.{take}
use Rattle.std.specs.List.{AllByRecursion}
use Rattle.fz_strength.specs.Cumulatives.{IsSound}
use Rattle.fz_cumulative.proofs.finding.first_negative.Given as goal

-- those so far are sound
abbrev pub invariant-loop-place : goal.invariant-loop-place
invariant-loop-place l = AllByRecursion IsSound (take l.place l.tasks)
