use Rattle.std.proofs.Common.{◌↔◌, ℤ, pos}
use Rattle.fz_plain.specs.Plain.{IsMultipleOf}
use Rattle.fz_plain.proofs.divisor.common_divisor.Given as goal

-- the same divisors
abbrev pub invariant-steps : goal.invariant-steps
invariant-steps l = (d : ℤ) → (IsMultipleOf d (pos l.fn.one) × IsMultipleOf d (pos l.fn.other)) ↔ (IsMultipleOf d (pos l.one) × IsMultipleOf d (pos l.other))

abbrev pub decreases-steps : goal.decreases-steps
decreases-steps l = l.other
