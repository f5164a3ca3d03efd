use Rattle.std.proofs.Common.{◌≡◌, ◌≤◌, ◌∙◌, ap, sym, subst, length, List, ℤ, false, true}
use Rattle.fz_sets.specs.Sets.{AreRanges}
use Rattle.fz_tree.specs.Choice.{pair_of}
use Rattle.fz_region.specs.Each.{each_of}
use Rattle.fz_region.specs.Alternatives.{decisions_of}
use Rattle.fz_tree.specs.declared.decision.Decision.{Decision}
use Rattle.fz_region.proofs.Each.{same_code, pair_is_other}
use Rattle.fz_region.proofs.choice.Choice.same.Goals as goal

pub returns-then-this-that : goal.returns-then-this-that
returns-then-this-that c =
    let v = c.in-Each-Each.this in
    let w = c.in-Each-Each.that in
    let d = c.in-Each-Each.these.value in
    let e = c.in-Each-Each.those.value in
    let seen : each_of v d ≡ c.args.self.now = sym (ap decisions_of c.in-Each-Each.is-0) ∙ c.self.view_is in
    let other : each_of w e ≡ c.args.other.now = sym (ap decisions_of c.in-Each-Each.is-1) ∙ c.other.view_is in
    let several = subst (λ (ds : List Decision). 2 ≤ length ds) c.self.view_is c.self.invariant.several in
    let of_d = subst (λ (rs : List (ℤ × ℤ)). AreRanges rs) c.deref-then-this-that.ensures c.same.ensures.domain.0 in
    let of_e = subst (λ (rs : List (ℤ × ℤ)). AreRanges rs) c.deref.ensures c.size.ensures.domain.0 in
    same_code v w d e c.args.self.now c.args.other.now c.same.result seen other several of_d of_e c.if-this-that.true
    (rw (c.deref-then-this-that.ensures, c.deref-then-this-that-2.ensures) at c.same.ensures.same)
    (rw (c.deref-then-this-that.ensures, c.deref-then-this-that-2.ensures) at c.same.ensures.one_set)

pub returns-in_default : goal.returns-in_default
returns-in_default c =
    let p = c.in_default.field-0-0 in
    let v = c.in_default.field-0-1 in
    let d = c.in_default.field-1-1.value in
    let seen : pair_of p ≡ c.args.self.now = sym (ap decisions_of c.in_default.is-0) ∙ c.self.view_is in
    let other : each_of v d ≡ c.args.other.now = sym (ap decisions_of c.in_default.is-1) ∙ c.other.view_is in
    (λ h. absurd (let f : false ≡ true = h in cc), λ is. absurd (pair_is_other p v d (seen ∙ is ∙ sym other)))

pub returns-in_default-2 : goal.returns-in_default-2
returns-in_default-2 c =
    let p = c.in_default.field-0-1 in
    let v = c.in_default.field-0-0 in
    let d = c.in_default.field-1-0.value in
    let seen : each_of v d ≡ c.args.self.now = sym (ap decisions_of c.in_default.is-0) ∙ c.self.view_is in
    let other : pair_of p ≡ c.args.other.now = sym (ap decisions_of c.in_default.is-1) ∙ c.other.view_is in
    (λ h. absurd (let f : false ≡ true = h in cc), λ is. absurd (pair_is_other p v d (other ∙ sym is ∙ sym seen)))
