use Rattle.std.proofs.Common.{false, Bool, rules}
use Rattle.fz_plain.specs.Plain.{IsToldByDivisor}
use Rattle.fz_plain.proofs.Told.{told_never}
use Rattle.fz_plain.proofs.decided.is_never.Goals as goal

pub returns-in-Some : goal.returns-in-Some
returns-in-Some c =
    let told : IsToldByDivisor c.in-Some.truth c.args.relation c.args.factors.now c.args.number = search rules in
    record { told = told_never c.in-Some.truth c.args.relation c.args.factors.now c.args.number told }

pub returns-in-None : goal.returns-in-None
returns-in-None c =
    let none : (b : Bool) → IsToldByDivisor b c.args.relation c.args.factors.now c.args.number → ⊥ = search rules in
    record { told = ((λ h. absurd (cc h)), (λ h. absurd (none false h))) }
