use Rattle.std.proofs.Common.{◌≡◌, take, Some}
use Rattle.std.specs.List.{AllByRecursion}
use Rattle.fz_part.specs.Texts.{part_text}
use Rattle.fz_join.specs.Tallies.{times_of}
use Rattle.fz_join.proofs.machine.State.lacking.Given as goal

-- those so far have run once
abbrev pub invariant-loop-place : goal.invariant-loop-place
invariant-loop-place l = AllByRecursion (λ p. times_of l.self.tally (part_text p) ≡ Some 1) (take l.place l.parts)
