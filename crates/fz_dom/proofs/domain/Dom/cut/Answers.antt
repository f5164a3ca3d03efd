use Rattle.std.proofs.Common.{◌≡◌, ◌∙◌, ◌<◌, ℤ, List, [], length, refl, sym, subst, ap, inl, inr, arith, rules}
use Rattle.std.proofs.lemmas.Int.{ints}
use Rattle.std.proofs.Math.Facts.{to_z-of_z}
use Rattle.std.proofs.lemmas.Bool.Decides.{nat_tests}
use Rattle.fz_dom.specs.Changes.{IsFromTo, IsChange}
use Rattle.fz_dom.specs.declared.change.Change.TheVariants.{Changed}
use Rattle.fz_dom.specs.Heads.{head_set}
use Rattle.fz_dom.proofs.Heads.{filled}
use Rattle.fz_dom.proofs.Changes.{cut_as}
use Rattle.fz_dom.proofs.Kept.{small_kept, small_whole, small_ranges, nil_of, ends_of, cut_out, low_high, seen, filled_of, domain_of}
use Rattle.fz_dom.proofs.domain.Dom.cut.Goals.{else-is_empty-via-then-is_empty+else-abs_diff-lt64, else-is_empty-via-else-is_empty}
use Rattle.fz_dom.proofs.domain.Dom.cut.Goals as goal

pub cut-requires-clause-whole : goal.cut-requires-clause-whole
cut-requires-clause-whole c =
    let h = c.self.inside.head in
    let rest = c.self.inside.rest.items in
    let k = c.self.invariant in
    let e : rest ≡ [] = nil_of rest (let t = c.if-is_empty.true in grind (arith, nat_tests)) in
    small_whole h rest e k

pub invariant_of-self : goal.invariant_of-self
invariant_of-self c =
    let h = c.self.inside.head in
    let rest = c.self.inside.rest.items in
    let k = c.self.invariant in
    let e : rest ≡ [] = nil_of rest (let t = c.if-is_empty.true in grind (arith, nat_tests)) in
    small_kept c.cut.new.self rest e c.cut.ensures.whole

pub returns-then-abs_diff-lt64-clause-domain : goal.returns-then-abs_diff-lt64-clause-domain
returns-then-abs_diff-lt64-clause-domain c =
    let h = c.self.inside.head in
    let rest = c.self.inside.rest.items in
    let k = c.self.invariant in
    let e : rest ≡ [] = nil_of rest (let t = c.if-is_empty.true in grind (arith, nat_tests)) in
    domain_of c.cut.new.self rest (small_kept c.cut.new.self rest e c.cut.ensures.whole)

pub returns-then-abs_diff-lt64-clause-change : goal.returns-then-abs_diff-lt64-clause-change
returns-then-abs_diff-lt64-clause-change c =
    let h = c.self.inside.head in
    let rest = c.self.inside.rest.items in
    let k = c.self.invariant in
    let e : rest ≡ [] = nil_of rest (let t = c.if-is_empty.true in grind (arith, nat_tests)) in
    let g : head_set h ≡ c.args.self.now = sym (small_ranges h rest e) ∙ c.self.view_is in
    let a = cut_as c.cut.result c.args.low c.args.high _ _ (head_set h) (head_set c.cut.new.self) c.cut.ensures.change (search rules) (search rules) in
    subst (λ (s : List (ℤ × ℤ)). IsChange c.cut.result (λ x. IsFromTo c.args.low c.args.high x → ⊥) c.args.self.now s) (sym (small_ranges c.cut.new.self rest e))
    (subst (λ (s : List (ℤ × ℤ)). IsChange c.cut.result (λ x. IsFromTo c.args.low c.args.high x → ⊥) s (head_set c.cut.new.self)) g a)

pub from_several-requires-clause-some : goal.from_several-requires-clause-some
from_several-requires-clause-some c =
    let d = c.args.self.now in
    let h = c.self.inside.head in
    let rest = c.self.inside.rest.items in
    let k = c.self.invariant in
    let f = seen h rest d k c.self.view_is in
    let qf = c.requires.from in let qt = c.requires.to in let qo = c.requires.order in
    let l : 0 < length d = filled_of d (omega (arith, ints)) in
    let lh = low_high h d f l in
    let lh0 = lh.0 in let lh1 = lh.1 in let lh2 = lh.2 in
    let li = f.low_is in let hi = f.high_is in
    let p = rw c.in-Some.is at c.in_ok-ranges.ensures.some in
    let t = ends_of h d f l in
    filled c.in-Some.ranges.items h.low ((p.members h.low).1 (t.0, λ n. let n0 = n.0 in omega (arith, ints)))

pub returns-clause-change : goal.returns-clause-change
returns-clause-change c =
    let d = c.args.self.now in
    let h = c.self.inside.head in
    let rest = c.self.inside.rest.items in
    let k = c.self.invariant in
    let f = seen h rest d k c.self.view_is in
    let qf = c.requires.from in let qt = c.requires.to in let qo = c.requires.order in
    let l : 0 < length d = filled_of d (omega (arith, ints)) in
    let lh = low_high h d f l in
    let lh0 = lh.0 in let lh1 = lh.1 in let lh2 = lh.2 in
    let li = f.low_is in let hi = f.high_is in
    let p = rw c.in-Some.is at c.in_ok-ranges.ensures.some in
    let m = (rw c.in-Some.is at c.in_ok-ranges.ensures.member) refl in
    subst (λ (s : List (ℤ × ℤ)). IsChange Changed (λ x. IsFromTo c.args.low c.args.high x → ⊥) d s) (sym (c.from_several-2.view_is ∙ c.from_several.ensures))
    (cut_as Changed c.args.low c.args.high _ _ d c.in-Some.ranges.items (cut_out h d c.in-Some.ranges.items _ _ m.0 f l p m.1 m.2 (omega (arith, ints))) (search rules) (search rules))

pub cut-requires-clause-from : goal.cut-requires-clause-from
cut-requires-clause-from c =
    let d = c.args.self.now in
    let h = c.self.inside.head in
    let rest = c.self.inside.rest.items in
    let f = seen h rest d c.self.invariant c.self.view_is in
    let qf = c.requires.from in let qt = c.requires.to in let qo = c.requires.order in
    let li = f.low_is in let hi = f.high_is in
    omega (arith, ints)

pub cut-requires-clause-to : goal.cut-requires-clause-to
cut-requires-clause-to c =
    let d = c.args.self.now in
    let h = c.self.inside.head in
    let rest = c.self.inside.rest.items in
    let f = seen h rest d c.self.invariant c.self.view_is in
    let qf = c.requires.from in let qt = c.requires.to in let qo = c.requires.order in
    let li = f.low_is in let hi = f.high_is in
    omega (arith, ints)

pub cut-requires-clause-order : goal.cut-requires-clause-order
cut-requires-clause-order c = rw (to_z-of_z c.ranges.low, to_z-of_z c.ranges.high) c.requires.order

pub cut_ranges-requires-clause-from : goal.cut_ranges-requires-clause-from
cut_ranges-requires-clause-from c = rw (to_z-of_z c.ranges.low) c.requires.from

pub cut_ranges-requires-clause-to : goal.cut_ranges-requires-clause-to
cut_ranges-requires-clause-to c = rw (to_z-of_z c.ranges.high) c.requires.to

pub cut_ranges-requires-clause-order : goal.cut_ranges-requires-clause-order
cut_ranges-requires-clause-order c = rw (to_z-of_z c.ranges.low, to_z-of_z c.ranges.high) c.requires.order

pub cut_ranges-requires-clause-wide : goal.cut_ranges-requires-clause-wide
cut_ranges-requires-clause-wide c =
    let d = c.args.self.now in
    let h = c.self.inside.head in
    let rest = c.self.inside.rest.items in
    let f = seen h rest d c.self.invariant c.self.view_is in
    let qf = c.requires.from in let qt = c.requires.to in let qo = c.requires.order in
    let li = f.low_is in let hi = f.high_is in
    elim c.else-is_empty.branch [
      | else-is_empty-via-then-is_empty+else-abs_diff-lt64 w ↦ (let t = w.if-abs_diff-lt64.false in omega (arith, ints))
      | else-is_empty-via-else-is_empty w ↦ elim c.self.invariant.wide [
        | inl none ↦ (let long = ap length none in let t = w.if-is_empty.false in absurd (grind (arith, nat_tests)))
        | inr wide ↦ (let apart = wide.1 in omega (arith, ints))
      ]
    ]

pub returns-in_err-ranges-clause-domain : goal.returns-in_err-ranges-clause-domain
returns-in_err-ranges-clause-domain c = rw (← c.self.view_is) (domain_of c.self.inside.head c.self.inside.rest.items c.self.invariant)

pub returns-in_default-clause-domain : goal.returns-in_default-clause-domain
returns-in_default-clause-domain c = rw (← c.self.view_is) (domain_of c.self.inside.head c.self.inside.rest.items c.self.invariant)

pub returns-in_default-clause-change : goal.returns-in_default-clause-change
returns-in_default-clause-change c =
    let d = c.args.self.now in
    let qf = c.requires.from in let qt = c.requires.to in let qo = c.requires.order in
    let none = (rw (c.in_default.is, to_z-of_z c.ranges.low, to_z-of_z c.ranges.high) at c.in_ok-ranges.ensures.none) refl in
    (refl, none, filled_of d (omega (arith, ints)))

pub from_several-requires-clause-ranges : goal.from_several-requires-clause-ranges
from_several-requires-clause-ranges c =
    let part = rw c.in-Some.is at c.in_ok-ranges.ensures.some in
    part.ranges

pub from_several-requires-clause-within : goal.from_several-requires-clause-within
from_several-requires-clause-within c =
    let part = rw c.in-Some.is at c.in_ok-ranges.ensures.some in
    part.within

pub invariant_of-self-2 : goal.invariant_of-self-2
invariant_of-self-2 c = c.from_several-2.invariant

pub returns-clause-domain : goal.returns-clause-domain
returns-clause-domain c = domain_of c.from_several-2.inside.head c.from_several-2.inside.rest.items c.from_several-2.invariant
