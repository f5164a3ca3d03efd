use Rattle.std.proofs.Common.{◌≡◌, ◌∙◌, ◌<◌, ◌+ℤ◌, ◌-ℤ◌, ℤ, pos, List, [], ◌∷◌, length, sym, subst, inl, arith, rules, w32}
use Rattle.std.proofs.lemmas.Int.{ints}
use Rattle.std.proofs.lemmas.Bool.Decides.{nat_tests}
use Rattle.fz_sets.specs.Sets.{IsInSet}
use Rattle.fz_dom.specs.Changes.{IsFromTo}
use Rattle.fz_dom.specs.Heads.{head_set}
use mir.Val.{SFits}
use Rattle.fz_dom.specs.Wide.{IsPart, cut_ranges}
use Rattle.fz_dom.proofs.Changes.{plain_when_wide}
use Rattle.fz_dom.proofs.Lists.{cut_part}
use Rattle.fz_dom.proofs.Kept.{small_whole, small_ranges, nil_of, wide_ranges, rest_of, split_part, low_high, seen, filled_of}
use Rattle.fz_dom.proofs.domain.Dom.cut_ranges.Goals as goal

pub overflow_add-right : goal.overflow_add-right
overflow_add-right c =
    let d = c.args.self.now in
    let h = c.self.inside.head in
    let rest = c.self.inside.rest.items in
    let k = c.self.invariant in
    let f = seen h rest d k c.self.view_is in
    let qf = c.requires.from in let qt = c.requires.to in let qo = c.requires.order in
    let l : 0 < length d = filled_of d (omega (arith, ints)) in
    let lh = low_high h d f l in
    let lh0 = lh.0 in let lh1 = lh.1 in let lh2 = lh.2 in
    let li = f.low_is in let hi = f.high_is in
    omega (arith, ints)

pub returns-then-is_empty-clause-some : goal.returns-then-is_empty-clause-some
returns-then-is_empty-clause-some c =
    let d = c.args.self.now in
    let h = c.self.inside.head in
    let rest = c.self.inside.rest.items in
    let k = c.self.invariant in
    let f = seen h rest d k c.self.view_is in
    let qf = c.requires.from in let qt = c.requires.to in let qo = c.requires.order in
    let l : 0 < length d = filled_of d (omega (arith, ints)) in
    let lh = low_high h d f l in
    let lh0 = lh.0 in let lh1 = lh.1 in let lh2 = lh.2 in
    let li = f.low_is in let hi = f.high_is in
    let e : rest ≡ [] = nil_of rest (let t = c.if-is_empty.true in grind (arith, nat_tests)) in
    let w = small_whole h rest e k in
    let g : head_set h ≡ d = sym (small_ranges h rest e) ∙ c.self.view_is in
    let qw = c.requires.wide in
    let one : d ≡ (h.low, h.high) ∷ [] = sym g ∙ plain_when_wide h w (omega (arith, ints)) (subst (λ (s : List (ℤ × ℤ)). 0 < length s) (sym g) l) in
    let right : SFits w32 (c.args.high +ℤ pos 1) = omega (arith, ints) in
    let left : SFits w32 (c.args.low -ℤ pos 1) = omega (arith, ints) in
    let items : c.from_buf.result.items ≡ (h.low, c.args.low -ℤ pos 1) ∷ (c.args.high +ℤ pos 1, h.high) ∷ [] = search rules in
    subst (λ (s : List (ℤ × ℤ)). IsPart (λ x. IsFromTo c.args.low c.args.high x → ⊥) s c.from_buf.result.items) (sym one)
    (subst (λ (s : List (ℤ × ℤ)). IsPart (λ x. IsFromTo c.args.low c.args.high x → ⊥) ((h.low, h.high) ∷ []) s) (sym items)
    (split_part h.low h.high c.args.low c.args.high (omega (arith, ints)) (omega (arith, ints)) qo lh1 lh2))

pub returns-then-is_empty-clause-member : goal.returns-then-is_empty-clause-member
returns-then-is_empty-clause-member c = λ t.
    let d = c.args.self.now in
    let h = c.self.inside.head in
    let rest = c.self.inside.rest.items in
    let k = c.self.invariant in
    let f = seen h rest d k c.self.view_is in
    let qf = c.requires.from in let qt = c.requires.to in let qo = c.requires.order in
    let l : 0 < length d = filled_of d (omega (arith, ints)) in
    let lh = low_high h d f l in
    let lh0 = lh.0 in let lh1 = lh.1 in let lh2 = lh.2 in
    let li = f.low_is in let hi = f.high_is in
    let e : rest ≡ [] = nil_of rest (let t = c.if-is_empty.true in grind (arith, nat_tests)) in
    let w = small_whole h rest e k in
    let g : head_set h ≡ d = sym (small_ranges h rest e) ∙ c.self.view_is in
    let qw = c.requires.wide in
    let one : d ≡ (h.low, h.high) ∷ [] = sym g ∙ plain_when_wide h w (omega (arith, ints)) (subst (λ (s : List (ℤ × ℤ)). 0 < length s) (sym g) l) in
    (c.args.low, subst (λ (s : List (ℤ × ℤ)). IsInSet s c.args.low) (sym one) (inl (omega (arith, ints), omega (arith, ints))), (omega (arith, ints), qo))

pub cut-requires-clause-low : goal.cut-requires-clause-low
cut-requires-clause-low c =
    let d = c.args.self.now in
    let h = c.self.inside.head in
    let rest = c.self.inside.rest.items in
    let k = c.self.invariant in
    let f = seen h rest d k c.self.view_is in
    let qf = c.requires.from in let qt = c.requires.to in let qo = c.requires.order in
    let l : 0 < length d = filled_of d (omega (arith, ints)) in
    let lh = low_high h d f l in
    let lh0 = lh.0 in let lh1 = lh.1 in let lh2 = lh.2 in
    let li = f.low_is in let hi = f.high_is in
    (omega (arith, ints), omega (arith, ints))

pub cut-requires-clause-high : goal.cut-requires-clause-high
cut-requires-clause-high c =
    let d = c.args.self.now in
    let h = c.self.inside.head in
    let rest = c.self.inside.rest.items in
    let k = c.self.invariant in
    let f = seen h rest d k c.self.view_is in
    let qf = c.requires.from in let qt = c.requires.to in let qo = c.requires.order in
    let l : 0 < length d = filled_of d (omega (arith, ints)) in
    let lh = low_high h d f l in
    let lh0 = lh.0 in let lh1 = lh.1 in let lh2 = lh.2 in
    let li = f.low_is in let hi = f.high_is in
    (omega (arith, ints), omega (arith, ints))

pub returns-clause-some : goal.returns-clause-some
returns-clause-some c =
    let d = c.args.self.now in
    let h = c.self.inside.head in
    let rest = c.self.inside.rest.items in
    let k = c.self.invariant in
    let f = seen h rest d k c.self.view_is in
    let qf = c.requires.from in let qt = c.requires.to in let qo = c.requires.order in
    let l : 0 < length d = filled_of d (omega (arith, ints)) in
    let lh = low_high h d f l in
    let lh0 = lh.0 in let lh1 = lh.1 in let lh2 = lh.2 in
    let li = f.low_is in let hi = f.high_is in
    let m : 0 < length rest = (let t = c.if-is_empty.false in grind (arith, nat_tests)) in
    let v : rest ≡ d = sym (wide_ranges h rest m) ∙ c.self.view_is in
    let rf = rest_of h rest k m in
    let items : c.in_ok-cut.field-0.items ≡ cut_ranges c.args.low c.args.high rest = search rules in
    subst (λ (s : List (ℤ × ℤ)). IsPart (λ x. IsFromTo c.args.low c.args.high x → ⊥) s c.in_ok-cut.field-0.items) v
    (subst (λ (s : List (ℤ × ℤ)). IsPart (λ x. IsFromTo c.args.low c.args.high x → ⊥) rest s) (sym items)
    (cut_part c.args.low c.args.high rest qo rf.are_ranges rf.within))

pub returns-clause-member : goal.returns-clause-member
returns-clause-member c = λ t.
    let d = c.args.self.now in
    let h = c.self.inside.head in
    let rest = c.self.inside.rest.items in
    let k = c.self.invariant in
    let f = seen h rest d k c.self.view_is in
    let qf = c.requires.from in let qt = c.requires.to in let qo = c.requires.order in
    let l : 0 < length d = filled_of d (omega (arith, ints)) in
    let lh = low_high h d f l in
    let lh0 = lh.0 in let lh1 = lh.1 in let lh2 = lh.2 in
    let li = f.low_is in let hi = f.high_is in
    let m : 0 < length rest = (let t = c.if-is_empty.false in grind (arith, nat_tests)) in
    let v : rest ≡ d = sym (wide_ranges h rest m) ∙ c.self.view_is in
    let rf = rest_of h rest k m in
    let y0 = c.has_between.ensures.some (search rules) in
    let yr = y0.2 in let ya = yr.0 in let yb = yr.1 in
    (y0.0, subst (λ (s : List (ℤ × ℤ)). IsInSet s y0.0) (c.as_slice.ensures ∙ v) y0.1, (omega (arith, ints), omega (arith, ints)))
