use Rattle.std.proofs.Common.{◌≡◌, ◌∙◌, ◌<◌, ◌<ℤ◌, ◌⊎◌, ℤ, List, [], length, refl, sym, subst, inl, inr, arith, rules}
use Rattle.std.proofs.lemmas.Int.{ints, clamps}
use Rattle.std.proofs.lemmas.Bool.Decides.{nat_tests}
use Rattle.std.specs.Int.{int_max, int_min}
use Rattle.fz_dom.specs.declared.change.Change.TheVariants.{Changed}
use Rattle.fz_sets.specs.Sets.{IsInSet}
use Rattle.fz_dom.specs.Changes.{IsFromTo, IsChange}
use Rattle.fz_dom.specs.Kept.{kept_ranges}
use Rattle.fz_dom.proofs.Heads.{filled}
use Rattle.fz_dom.proofs.Kept.{small_kept, nil_of, wide_ranges, rest_of, ends_of, clipped, limits_of, low_high}
use Rattle.fz_dom.proofs.domain.Dom.keep_range.Goals as goal
use Rattle.fz_dom.proofs.domain.Dom.keep_range.Goals.{else-low-self-via-then-low-self+else-self-high, else-low-self-via-else-low-self}

pub invariant_of-self : goal.invariant_of-self
invariant_of-self c =
    let e : c.self.inside.rest.items ≡ [] = nil_of c.self.inside.rest.items (let t = c.if-is_empty.true in grind (arith, nat_tests)) in
    small_kept c.keep_range.new.self c.self.inside.rest.items e c.keep_range.ensures.whole

pub returns-then-self-high-clause-change : goal.returns-then-self-high-clause-change
returns-then-self-high-clause-change c =
    let h = c.self.inside.head in
    let rest = c.self.inside.rest.items in
    let k = c.self.invariant in
    let l : 0 < length rest = (let t = c.if-is_empty.false in grind (arith, nat_tests)) in
    let v : rest ≡ c.args.self.now = sym (wide_ranges h rest l) ∙ c.self.view_is in
    let f = rest_of h rest k l in
    let e = ends_of h rest f l in
    let y0 = c.has_between.ensures.some (search rules) in
    let yi : IsInSet rest y0.0 = subst (λ (s : List (ℤ × ℤ)). IsInSet s y0.0) c.as_slice.ensures y0.1 in
    let yr = y0.2 in let ya = yr.0 in let yb = yr.1 in
    let lim = limits_of rest y0.0 (f.are_ranges, f.within) yi in
    let lim0 = lim.0 in let lim1 = lim.1 in
    let inside = e.2 y0.0 yi in
    let in0 = inside.0 in let in1 = inside.1 in
    let lh = low_high h rest f l in
    let lh0 = lh.1 in let lh1 = lh.2 in (
      refl,
      λ x i. (let p = e.2 x (subst (λ (s : List (ℤ × ℤ)). IsInSet s x) (sym v) i) in let p0 = p.0 in let p1 = p.1 in let t = c.if-low-self.true in let u = c.if-self-high.true in
          (omega (arith, ints), omega (arith, ints))),
      subst (λ (s : List (ℤ × ℤ)). 0 < length s) v l,
    )

pub keep_between-requires-clause-ranges : goal.keep_between-requires-clause-ranges
keep_between-requires-clause-ranges c =
    let h = c.self.inside.head in
    let rest = c.self.inside.rest.items in
    let k = c.self.invariant in
    let l : 0 < length rest = (let t = c.if-is_empty.false in grind (arith, nat_tests)) in
    let v : rest ≡ c.args.self.now = sym (wide_ranges h rest l) ∙ c.self.view_is in
    let f = rest_of h rest k l in
    let e = ends_of h rest f l in
    f.are_ranges

pub keep_between-requires-clause-within : goal.keep_between-requires-clause-within
keep_between-requires-clause-within c =
    let h = c.self.inside.head in
    let rest = c.self.inside.rest.items in
    let k = c.self.invariant in
    let l : 0 < length rest = (let t = c.if-is_empty.false in grind (arith, nat_tests)) in
    let v : rest ≡ c.args.self.now = sym (wide_ranges h rest l) ∙ c.self.view_is in
    let f = rest_of h rest k l in
    let e = ends_of h rest f l in
    f.within

pub keep_between-requires-clause-low : goal.keep_between-requires-clause-low
keep_between-requires-clause-low c =
    let h = c.self.inside.head in
    let rest = c.self.inside.rest.items in
    let k = c.self.invariant in
    let l : 0 < length rest = (let t = c.if-is_empty.false in grind (arith, nat_tests)) in
    let v : rest ≡ c.args.self.now = sym (wide_ranges h rest l) ∙ c.self.view_is in
    let f = rest_of h rest k l in
    let e = ends_of h rest f l in
    let y0 = c.has_between.ensures.some (search rules) in
    let yi : IsInSet rest y0.0 = subst (λ (s : List (ℤ × ℤ)). IsInSet s y0.0) c.as_slice.ensures y0.1 in
    let yr = y0.2 in let ya = yr.0 in let yb = yr.1 in
    let lim = limits_of rest y0.0 (f.are_ranges, f.within) yi in
    let lim0 = lim.0 in let lim1 = lim.1 in
    let inside = e.2 y0.0 yi in
    let in0 = inside.0 in let in1 = inside.1 in
    let lh = low_high h rest f l in
    let lh0 = lh.1 in let lh1 = lh.2 in
    (omega (arith, ints, clamps), omega (arith, ints, clamps))

pub keep_between-requires-clause-high : goal.keep_between-requires-clause-high
keep_between-requires-clause-high c =
    let h = c.self.inside.head in
    let rest = c.self.inside.rest.items in
    let k = c.self.invariant in
    let l : 0 < length rest = (let t = c.if-is_empty.false in grind (arith, nat_tests)) in
    let v : rest ≡ c.args.self.now = sym (wide_ranges h rest l) ∙ c.self.view_is in
    let f = rest_of h rest k l in
    let e = ends_of h rest f l in
    let y0 = c.has_between.ensures.some (search rules) in
    let yi : IsInSet rest y0.0 = subst (λ (s : List (ℤ × ℤ)). IsInSet s y0.0) c.as_slice.ensures y0.1 in
    let yr = y0.2 in let ya = yr.0 in let yb = yr.1 in
    let lim = limits_of rest y0.0 (f.are_ranges, f.within) yi in
    let lim0 = lim.0 in let lim1 = lim.1 in
    let inside = e.2 y0.0 yi in
    let in0 = inside.0 in let in1 = inside.1 in
    let lh = low_high h rest f l in
    let lh0 = lh.1 in let lh1 = lh.2 in
    (omega (arith, ints, clamps), omega (arith, ints, clamps))

pub settle-self-inside-requires-clause-some : goal.settle-self-inside-requires-clause-some
settle-self-inside-requires-clause-some c =
    let h = c.self.inside.head in
    let rest = c.self.inside.rest.items in
    let k = c.self.invariant in
    let l : 0 < length rest = (let t = c.if-is_empty.false in grind (arith, nat_tests)) in
    let v : rest ≡ c.args.self.now = sym (wide_ranges h rest l) ∙ c.self.view_is in
    let f = rest_of h rest k l in
    let e = ends_of h rest f l in
    let y0 = c.has_between.ensures.some (search rules) in
    let yi : IsInSet rest y0.0 = subst (λ (s : List (ℤ × ℤ)). IsInSet s y0.0) c.as_slice.ensures y0.1 in
    let yr = y0.2 in let ya = yr.0 in let yb = yr.1 in
    let lim = limits_of rest y0.0 (f.are_ranges, f.within) yi in
    let lim0 = lim.0 in let lim1 = lim.1 in
    let inside = e.2 y0.0 yi in
    let in0 = inside.0 in let in1 = inside.1 in
    let lh = low_high h rest f l in
    let lh0 = lh.1 in let lh1 = lh.2 in
    filled c.keep_between.new.ranges.items y0.0 ((c.keep_between.ensures.members y0.0).1 (yi, (omega (arith, ints, clamps), omega (arith, ints, clamps))))

pub returns-clause-change : goal.returns-clause-change
returns-clause-change c =
    let h = c.self.inside.head in
    let rest = c.self.inside.rest.items in
    let k = c.self.invariant in
    let l : 0 < length rest = (let t = c.if-is_empty.false in grind (arith, nat_tests)) in
    let v : rest ≡ c.args.self.now = sym (wide_ranges h rest l) ∙ c.self.view_is in
    let f = rest_of h rest k l in
    let e = ends_of h rest f l in
    let y0 = c.has_between.ensures.some (search rules) in
    let yi : IsInSet rest y0.0 = subst (λ (s : List (ℤ × ℤ)). IsInSet s y0.0) c.as_slice.ensures y0.1 in
    let yr = y0.2 in let ya = yr.0 in let yb = yr.1 in
    let lim = limits_of rest y0.0 (f.are_ranges, f.within) yi in
    let lim0 = lim.0 in let lim1 = lim.1 in
    let inside = e.2 y0.0 yi in
    let in0 = inside.0 in let in1 = inside.1 in
    let lh = low_high h rest f l in
    let lh0 = lh.1 in let lh1 = lh.2 in
    let s : (h.low <ℤ c.args.low) ⊎ (c.args.high <ℤ h.high) = elim c.else-low-self.branch [
      | else-low-self-via-then-low-self+else-self-high w ↦ inr (let t = w.if-self-high.false in omega (arith, ints))
      | else-low-self-via-else-low-self w ↦ inl (let t = w.if-low-self.false in omega (arith, ints))
    ] in
    let a : c.max-low.result ≡ int_max c.args.low h.low = search rules in
    let b : c.min-high.result ≡ int_min c.args.high h.high = search rules in
    let g = clipped h rest c.keep_between.new.ranges.items c.args.low c.args.high _ _ y0.0 f l (search rules) (search rules) c.keep_between.ensures yi (omega (arith, ints), omega (arith, ints)) s in
    subst (λ (d : List (ℤ × ℤ)). IsChange Changed (λ x. IsFromTo c.args.low c.args.high x) d (kept_ranges c.settle-self-inside.result c.settle-self-inside.new.ranges.items)) v
    (subst (λ (d : List (ℤ × ℤ)). IsChange Changed (λ x. IsFromTo c.args.low c.args.high x) rest d) (sym c.settle-self-inside.ensures.set) g)
