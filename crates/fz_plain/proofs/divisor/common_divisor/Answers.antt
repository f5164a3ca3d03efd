use Rattle.std.proofs.Common.{◌≡◌, ℕ, pos, subst, sym, rules}
use Rattle.fz_plain.specs.Plain.{IsMultipleOf}
use Rattle.fz_plain.proofs.Divisors.{step_both, zero_multiple}
use Rattle.fz_plain.proofs.divisor.common_divisor.Goals as goal

pub steps-preserved : goal.steps-preserved
steps-preserved c = λ d.
    let s = step_both d c.steps.one c.steps.other in
    let i = c.steps.invariant d in
    ((λ h. s.0 (i.0 h)), (λ h. i.1 (s.1 h)))

pub returns : goal.returns
returns c = λ d.
    let none : c.steps.other ≡ 0 = search rules in
    let i = c.steps.invariant d in
    ((λ h. (i.0 h).0), (λ h. i.1 (h, subst (λ (n : ℕ). IsMultipleOf d (pos n)) (sym none) (zero_multiple d))))
