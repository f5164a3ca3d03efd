use Rattle.std.proofs.Common.{◌≡◌, ◌↔◌, inl, pos, false, IsTrue, rules, refl, to_z, of_z, w32}
use Rattle.fz_plain.specs.Plain.{IsToldByDivisor}
use Rattle.fz_plain.proofs.Told.{unit_untold}
use Rattle.fz_plain.proofs.sums.is_never_term.Goals as goal

pub returns-in-Num : goal.returns-in-Num
returns-in-Num c =
    let read : to_z w32 (of_z w32 c.in-Num.number) ≡ c.in-Num.number = search rules in
    let told : IsTrue c.is_never.result ↔ IsToldByDivisor false c.args.relation c.args.factors.now c.in-Num.number = rw read at c.is_never.ensures.told in
    rw c.in-Num.is told

pub returns-in-Var : goal.returns-in-Var
returns-in-Var c = rw c.in-Var.is ((λ h. absurd (cc h)), (λ h. absurd (unit_untold false c.args.relation _ c.args.factors.now (pos 0) (inl refl) h)))
