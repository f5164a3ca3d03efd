use Rattle.std.proofs.Common.{◌↔◌, ℤ, pos, take}
use Rattle.std.specs.List.{AllByRecursion}
use Rattle.fz_plain.specs.Plain.{IsMultipleOf}
use Rattle.fz_plain.proofs.divisor.greatest_divisor.Given as goal

-- its divisors are those of all so far
abbrev pub invariant-loop-number : goal.invariant-loop-number
invariant-loop-number l = (d : ℤ) → AllByRecursion (IsMultipleOf d) (take l.number-index l.numbers) ↔ IsMultipleOf d (pos l.divisor)
