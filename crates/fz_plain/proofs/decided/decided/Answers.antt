use Rattle.std.proofs.Common.{◌≡◌, ◌<◌, inl, inr, pos, true, false, rules}
use Rattle.std.proofs.Math.Facts.{to_z-of_z}
use Rattle.fz_spec.specs.declared.shape.Relation.TheVariants.{Equal, NotEqual}
use Rattle.fz_plain.specs.Plain.{IsMultipleOf}
use Rattle.fz_plain.proofs.Told.{multiples_zeros, told_decided, untold}
use Rattle.fz_plain.proofs.decided.decided.Goals as goal

pub returns-then-divisor-eq0-clause-told : goal.returns-then-divisor-eq0-clause-told
returns-then-divisor-eq0-clause-told c =
    let none : c.greatest_divisor-divisor.result ≡ 0 = search rules in
    inl (multiples_zeros c.args.factors.now (rw none at c.greatest_divisor-divisor.ensures.divides), rw (to_z-of_z c.ranges.number) at c.relates.ensures)

pub returns-then-divisor-eq0-clause-decided : goal.returns-then-divisor-eq0-clause-decided
returns-then-divisor-eq0-clause-decided c =
    let none : c.greatest_divisor-divisor.result ≡ 0 = search rules in
    told_decided c.relates.result c.args.relation c.args.factors.now c.args.terms.now c.args.number
    (inl (multiples_zeros c.args.factors.now (rw none at c.greatest_divisor-divisor.ensures.divides), rw (to_z-of_z c.ranges.number) at c.relates.ensures))

pub returns-in-Equal-clause-told : goal.returns-in-Equal-clause-told
returns-in-Equal-clause-told c =
    let off : IsMultipleOf (pos c.greatest_divisor-divisor.result) c.args.number → ⊥ = search rules in
    inr (c.in-Equal.is, (pos c.greatest_divisor-divisor.result, c.greatest_divisor-divisor.ensures.divides, off))

pub returns-in-Equal-clause-decided : goal.returns-in-Equal-clause-decided
returns-in-Equal-clause-decided c =
    let off : IsMultipleOf (pos c.greatest_divisor-divisor.result) c.args.number → ⊥ = search rules in
    told_decided false c.args.relation c.args.factors.now c.args.terms.now c.args.number
    (inr (c.in-Equal.is, (pos c.greatest_divisor-divisor.result, c.greatest_divisor-divisor.ensures.divides, off)))

pub returns-in-NotEqual-clause-told : goal.returns-in-NotEqual-clause-told
returns-in-NotEqual-clause-told c =
    let off : IsMultipleOf (pos c.greatest_divisor-divisor.result) c.args.number → ⊥ = search rules in
    inr (c.in-NotEqual.is, (pos c.greatest_divisor-divisor.result, c.greatest_divisor-divisor.ensures.divides, off))

pub returns-in-NotEqual-clause-decided : goal.returns-in-NotEqual-clause-decided
returns-in-NotEqual-clause-decided c =
    let off : IsMultipleOf (pos c.greatest_divisor-divisor.result) c.args.number → ⊥ = search rules in
    told_decided true c.args.relation c.args.factors.now c.args.terms.now c.args.number
    (inr (c.in-NotEqual.is, (pos c.greatest_divisor-divisor.result, c.greatest_divisor-divisor.ensures.divides, off)))

pub returns-in_default-clause-none : goal.returns-in_default-clause-none
returns-in_default-clause-none c = λ is b told.
    let some : 0 < c.greatest_divisor-divisor.result = search rules in
    let divides : IsMultipleOf (pos c.greatest_divisor-divisor.result) c.args.number = search rules in
    untold b c.args.relation c.args.factors.now c.args.number c.greatest_divisor-divisor.result some c.greatest_divisor-divisor.ensures.greatest (λ e. divides) (λ e. divides) told

pub returns-in_default-2-clause-none : goal.returns-in_default-2-clause-none
returns-in_default-2-clause-none c = λ is b told.
    let some : 0 < c.greatest_divisor-divisor.result = search rules in
    let divides : IsMultipleOf (pos c.greatest_divisor-divisor.result) c.args.number = search rules in
    untold b c.args.relation c.args.factors.now c.args.number c.greatest_divisor-divisor.result some c.greatest_divisor-divisor.ensures.greatest (λ e. divides) (λ e. divides) told

pub returns-in_default-3-clause-none : goal.returns-in_default-3-clause-none
returns-in_default-3-clause-none c = λ is b told.
    let some : 0 < c.greatest_divisor-divisor.result = search rules in
    let equal : c.args.relation ≡ Equal → ⊥ = search rules in
    let apart : c.args.relation ≡ NotEqual → ⊥ = search rules in
    untold b c.args.relation c.args.factors.now c.args.number c.greatest_divisor-divisor.result some c.greatest_divisor-divisor.ensures.greatest (λ e. absurd (equal e)) (λ e. absurd (apart e)) told
