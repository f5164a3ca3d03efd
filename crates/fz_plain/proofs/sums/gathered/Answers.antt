use Rattle.std.proofs.Common.{◌↔◌, inl, inr, false, IsTrue, rules, refl}
use Rattle.std.proofs.Math.Facts.{to_z-of_z}
use Rattle.fz_plain.specs.Plain.{IsToldByDivisor}
use Rattle.fz_plain.proofs.sums.gathered.Goals as goal

pub returns-then-is_never : goal.returns-then-is_never
returns-then-is_never c =
    let told : IsTrue c.is_never.result ↔ IsToldByDivisor false c.args.relation c.args.sum.factors.items c.args.number = rw (to_z-of_z c.ranges.number, c.deref.ensures.value) at c.is_never.ensures.told in
    let yes : IsTrue c.is_never.result = search rules in
    inr (c.never.ensures, told.0 yes)

pub returns : goal.returns
returns c =
    let told : IsTrue c.is_never.result ↔ IsToldByDivisor false c.args.relation c.args.sum.factors.items c.args.number = rw (to_z-of_z c.ranges.number, c.deref.ensures.value) at c.is_never.ensures.told in
    let no : IsTrue c.is_never.result → ⊥ = search rules in
    inl (rw (to_z-of_z c.ranges.number) refl, λ h. no (told.1 h))
