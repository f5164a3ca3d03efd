use Rattle.std.proofs.Common.{Bool, rules, refl}
use Rattle.std.proofs.Math.Facts.{to_z-of_z}
use Rattle.fz_plain.specs.Plain.{AreLarge, HasTwice, IsGathered, IsToldByDivisor}
use Rattle.fz_plain.proofs.Plainness.{gathered_if, gathered_told, sum_told, only_large_if}
use Rattle.fz_plain.proofs.sums.plain_sum_if.Goals as goal

pub returns-in-Some-decided : goal.returns-in-Some-decided
returns-in-Some-decided c =
    let is : IsGathered c.args.factors.now c.args.terms.now c.in-Some.sum.factors.items c.in-Some.sum.terms.items = search rules in
    let told : IsToldByDivisor c.in-Some-decided.truth c.args.relation c.deref.result.now c.args.number = rw (to_z-of_z c.ranges.number) at c.in-Some-decided.ensures.told in
    rw c.told_by.ensures (gathered_told c.in-Some-decided.truth c.args.relation c.args.factors.now c.in-Some.sum.factors.items c.args.terms.now c.in-Some.sum.terms.items c.args.number c.args.told is (rw c.deref.ensures.value at told))

pub returns-in-None-decided : goal.returns-in-None-decided
returns-in-None-decided c =
    let is : IsGathered c.args.factors.now c.args.terms.now c.in-Some.sum.factors.items c.in-Some.sum.terms.items = search rules in
    let none : (b : Bool) → IsToldByDivisor b c.args.relation c.in-Some.sum.factors.items c.args.number → ⊥ = (rw (to_z-of_z c.ranges.number, c.deref.ensures.value) at c.in-None-decided.ensures.none) refl in
    rw (to_z-of_z c.ranges.number) (gathered_if c.args.relation c.args.factors.now c.in-Some.sum.factors.items c.args.terms.now c.in-Some.sum.terms.items c.args.number c.args.told is none)

pub returns-in-Some-decided-2 : goal.returns-in-Some-decided-2
returns-in-Some-decided-2 c =
    let told : IsToldByDivisor c.in-Some-decided-2.truth c.args.relation c.args.factors.now c.args.number = rw (to_z-of_z c.ranges.number) at c.in-Some-decided-2.ensures.told in
    rw c.told_by-in-Some-decided-2.ensures (sum_told c.in-Some-decided-2.truth c.args.relation c.args.factors.now c.args.terms.now c.args.number c.args.told told)

pub returns-in-None-decided-2 : goal.returns-in-None-decided-2
returns-in-None-decided-2 c =
    let none : (b : Bool) → IsToldByDivisor b c.args.relation c.args.factors.now c.args.number → ⊥ = (rw (to_z-of_z c.ranges.number) at c.in-None-decided-2.ensures.none) refl in
    let large : HasTwice c.args.terms.now → AreLarge c.args.factors.now = search rules in
    only_large_if c.args.relation c.args.factors.now c.args.terms.now c.args.number none large
