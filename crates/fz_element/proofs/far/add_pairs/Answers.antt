use Rattle.std.proofs.Common.{◌≡◌, true, false, ℕ, ◌<◌, ◌≤◌, List, inl, refl, ap, arith, rules, length, get_or}
use Rattle.std.specs.Prelude.{ℤ, pos, ◌+ℤ◌, ◌<ℤ◌, ◌≤ℤ◌}
use Rattle.std.specs.Int.{int_max, int_min}
use Rattle.std.proofs.lemmas.Int.{ints, clamps}
use Rattle.std.proofs.lemmas.Result.{on_ok_weaker}
use Rattle.std.proofs.Math.Facts.{to_z-of_z}
use mir.Val.{SFits, to_z}
use mir.Syntax.{w32}
use lib.Signed.{lt_z}
use Rattle.fz_sets.specs.Sets.{IsInSet, IsWithinLimits}
use Rattle.fz_dom.specs.Shape.{IsDomain}
use Rattle.fz_strength.specs.Domains.{dom_at, term_set}
use Rattle.fz_element.proofs.Pairing.{pairs_none, pairs_whole, element_from, element_to, only_index, in_at, high_limits, reached_start, reached_low, reached_more, reached_passed, reached_all}
use Rattle.fz_element.proofs.far.add_pairs.Goals.{then-from-until+in_ok-add_range, else-from-until}
use Rattle.fz_element.proofs.far.add_pairs.Goals as goal

pub add_range-requires-clause-left : goal.add_range-requires-clause-left
add_range-requires-clause-left c = λ k from below.
    let fits_first : SFits w32 c.first_index-first.result = search rules in
    let fits_end : SFits w32 c.index_end-end.result = search rules in
    let low = rw c.in_default.is at c.first_index-first.ensures.first in
    let high = rw c.in_default.is at c.index_end-end.ensures.end in
    let is = only_index c.in_default.field-0 k (pos (length c.args.numbers.now)) c.first_index-first.result c.index_end-end.result low high
    (rw (to_z-of_z fits_first) at from) (rw (to_z-of_z fits_end) at below) in
    rw c.in_default.is (inl (omega (arith, ints, is), omega (arith, ints, is)))

pub add_range-requires-clause-begun : goal.add_range-requires-clause-begun
add_range-requires-clause-begun c =
    let ds = c.args.store.now.doms in
    let xs = c.args.numbers.now in
    let D : ℤ → Type 0 = λ k. IsInSet (term_set ds c.args.index) k in
    let E : ℤ → Type 0 = λ n. IsInSet (term_set ds c.args.value) n in
    let fits_first : SFits w32 c.first_index-first.result = search rules in
    rw (to_z-of_z fits_first, c.requires.none.0, c.requires.none.1) (pairs_none xs D E c.first_index-first.result
    (λ k n pair. c.first_index-first.ensures.below k (element_from k xs n pair.stands) pair.index))

pub returns-in_default : goal.returns-in_default
returns-in_default c =
    let ds = c.args.store.now.doms in
    let xs = c.args.numbers.now in
    let D : ℤ → Type 0 = λ k. IsInSet (term_set ds c.args.index) k in
    let E : ℤ → Type 0 = λ n. IsInSet (term_set ds c.args.value) n in
    let fits_first : SFits w32 c.first_index-first.result = search rules in
    let fits_end : SFits w32 c.index_end-end.result = search rules in
    on_ok_weaker c.add_range.result
    (λ below. pairs_whole xs D E c.add_range.new.found.places.items c.add_range.new.found.numbers.items (int_max c.first_index-first.result c.index_end-end.result)
    (λ k n pair. let lower = c.index_end-end.ensures.above k (element_to k xs n pair.stands) pair.index in omega (arith, ints, clamps, lower))
    (rw (to_z-of_z fits_first, to_z-of_z fits_end) at below))
    c.add_range.ensures

pub loop-i-init : goal.loop-i-init
loop-i-init c =
    let ds = c.args.store.now.doms in
    let xs = c.args.numbers.now in
    let rs = dom_at ds c.in-Var.variable in
    let E : ℤ → Type 0 = λ n. IsInSet (term_set ds c.args.value) n in
    let fits_first : SFits w32 c.first_index-first.result = search rules in
    let least = rw c.in-Var.is at c.first_index-first.ensures.below in
    rw (to_z-of_z fits_first, c.requires.none.0, c.requires.none.1)
    (reached_start xs rs E c.first_index-first.result _ (λ k n pair. least k (element_from k xs n pair.stands) pair.index))

from_test : (x y : ℤ) → lt_z x y ≡ false → y ≤ℤ x
from_test x y test = grind (arith, ints, test)

below_test : (x y : ℤ) → lt_z x y ≡ true → x <ℤ y
below_test x y test = grind (arith, ints, test)

-- what the range that is read is
record IsRange (rs : List (ℤ × ℤ)) (i : ℕ) (r : ℤ × ℤ) : Type 0 where
  inside : i < length rs
  is : r ≡ get_or rs i (pos 0, pos 0)
  domain : IsDomain rs
  low : SFits w32 r.0
  high : SFits w32 r.1
  next : SFits w32 (r.1 +ℤ pos 1)

range_is : (rs left : List (ℤ × ℤ)) (i count : ℕ) (r : ℤ × ℤ) → left ≡ rs → count ≡ length left → i < count → r ≡ get_or left i (pos 0, pos 0) → IsDomain left → SFits w32 r.0 → SFits w32 r.1 → IsRange rs i r
range_is rs left i count r same counted below read domain low high =
    let inside : i < length rs = let e = rw same at counted in omega (arith, e, below) in
    let is : r ≡ get_or rs i (pos 0, pos 0) = rw same at read in
    let whole : IsDomain rs = rw same at domain in
    let limits : IsWithinLimits r.1 = rw is (high_limits i rs (pos 0, pos 0) whole inside) in
    let least = limits.0 in let most = limits.1 in
    record { inside = inside; is = is; domain = whole; low = low; high = high; next = omega (arith, ints, least, most) }

pub overflow_add-high : goal.overflow_add-high
overflow_add-high c =
    let r = range_is (dom_at c.args.store.now.doms c.in-Var.variable) c.dom-left.result.now c.loop-i.i c.range_count-i-end.result c.range_at-low.result
    c.dom-left.ensures.dom c.range_count-i-end.ensures.count c.loop-i-test.true c.range_at-low.ensures.range c.range_at-low.ensures.domain (search rules) (search rules) in
    rw (to_z-of_z r.high) r.next

pub add_range-requires-then-from-until-clause-left : goal.add_range-requires-then-from-until-clause-left
add_range-requires-then-from-until-clause-left c = λ k from below.
    let rs = dom_at c.args.store.now.doms c.in-Var.variable in
    let r = range_is rs c.dom-left.result.now c.loop-i.i c.range_count-i-end.result c.range_at-low.result
    c.dom-left.ensures.dom c.range_count-i-end.ensures.count c.loop-i-test.true c.range_at-low.ensures.range c.range_at-low.ensures.domain (search rules) (search rules) in
    let fits_reached : SFits w32 (to_z w32 c.loop-i.reached-bits) = search rules in
    let fits_end : SFits w32 c.index_end-end.result = search rules in
    let fits_from : SFits w32 c.max-from.result = search rules in
    let fits_until : SFits w32 c.min-until.result = search rules in
    let low : c.max-from.result ≡ int_max c.range_at-low.result.0 (to_z w32 c.loop-i.reached-bits) = rw (to_z-of_z r.low) at c.max-from.ensures.value in
    let high : c.min-until.result ≡ int_min c.index_end-end.result (c.range_at-low.result.1 +ℤ pos 1) = rw (to_z-of_z fits_end, to_z-of_z r.high, to_z-of_z r.next) at c.min-until.ensures.value in
    let from_low : c.max-from.result ≤ℤ k = rw (to_z-of_z fits_from) at from in
    let below_high : k <ℤ c.min-until.result = rw (to_z-of_z fits_until) at below in
    in_at c.loop-i.i rs k (pos 0, pos 0) r.inside
    (rw (← r.is) (omega (arith, ints, clamps, low, from_low)), rw (← r.is) (omega (arith, ints, clamps, high, below_high)))

pub add_range-requires-then-from-until-clause-begun : goal.add_range-requires-then-from-until-clause-begun
add_range-requires-then-from-until-clause-begun c =
    let ds = c.args.store.now.doms in
    let xs = c.args.numbers.now in
    let rs = dom_at ds c.in-Var.variable in
    let E : ℤ → Type 0 = λ n. IsInSet (term_set ds c.args.value) n in
    let r = range_is rs c.dom-left.result.now c.loop-i.i c.range_count-i-end.result c.range_at-low.result
    c.dom-left.ensures.dom c.range_count-i-end.ensures.count c.loop-i-test.true c.range_at-low.ensures.range c.range_at-low.ensures.domain (search rules) (search rules) in
    let fits_first : SFits w32 c.first_index-first.result = search rules in
    let fits_end : SFits w32 c.index_end-end.result = search rules in
    let fits_from : SFits w32 c.max-from.result = search rules in
    let fits_until : SFits w32 c.min-until.result = search rules in
    let low : c.max-from.result ≡ int_max c.range_at-low.result.0 (to_z w32 c.loop-i.reached-bits) = rw (to_z-of_z r.low) at c.max-from.ensures.value in
    let high : c.min-until.result ≡ int_min c.index_end-end.result (c.range_at-low.result.1 +ℤ pos 1) = rw (to_z-of_z fits_end, to_z-of_z r.high, to_z-of_z r.next) at c.min-until.ensures.value in
    let test = rw (to_z-of_z fits_from, to_z-of_z fits_until) at c.if-from-until.true in
    let some = below_test c.max-from.result c.min-until.result test in
    let reached = rw (to_z-of_z fits_first, to_z-of_z fits_end) at c.loop-i.invariant in
    rw (to_z-of_z fits_from)
    (reached_low xs rs E c.loop-i.found.places.items c.loop-i.found.numbers.items c.loop-i.i c.first_index-first.result c.index_end-end.result (to_z w32 c.loop-i.reached-bits) c.range_at-low.result.0
    c.max-from.result c.min-until.result (pos 0, pos 0) r.domain.0 r.inside (ap (λ (p : ℤ × ℤ). p.0) r.is) low some (omega (arith, ints, clamps, high)) reached)

pub loop-i-preserved : goal.loop-i-preserved
loop-i-preserved c =
    let ds = c.args.store.now.doms in
    let xs = c.args.numbers.now in
    let rs = dom_at ds c.in-Var.variable in
    let E : ℤ → Type 0 = λ n. IsInSet (term_set ds c.args.value) n in
    let i = c.loop-i.i in
    let before = to_z w32 c.loop-i.reached-bits in
    let r = range_is rs c.dom-left.result.now i c.range_count-i-end.result c.range_at-low.result
    c.dom-left.ensures.dom c.range_count-i-end.ensures.count c.loop-i-test.true c.range_at-low.ensures.range c.range_at-low.ensures.domain (search rules) (search rules) in
    let fits_first : SFits w32 c.first_index-first.result = search rules in
    let fits_end : SFits w32 c.index_end-end.result = search rules in
    let fits_from : SFits w32 c.max-from.result = search rules in
    let fits_until : SFits w32 c.min-until.result = search rules in
    let low : c.max-from.result ≡ int_max c.range_at-low.result.0 before = rw (to_z-of_z r.low) at c.max-from.ensures.value in
    let high : c.min-until.result ≡ int_min c.index_end-end.result (c.range_at-low.result.1 +ℤ pos 1) = rw (to_z-of_z fits_end, to_z-of_z r.high, to_z-of_z r.next) at c.min-until.ensures.value in
    let reached = rw (to_z-of_z fits_first, to_z-of_z fits_end) at c.loop-i.invariant in
    let is_low = ap (λ (p : ℤ × ℤ). p.0) r.is in
    let is_high = ap (λ (p : ℤ × ℤ). p.1) r.is in
    rw (to_z-of_z fits_first, to_z-of_z fits_end) (elim c.if-from-until.branch [
      | then-from-until+in_ok-add_range w ↦
          let test = rw (to_z-of_z fits_from, to_z-of_z fits_until) at w.if-from-until.true in
          let some = below_test c.max-from.result c.min-until.result test in
          let pairs = rw (to_z-of_z fits_from, to_z-of_z fits_until) at w.in_ok-add_range.ensures in
          rw (w.found-is, w.reached-is, to_z-of_z fits_until)
          (reached_more xs rs E c.loop-i.found.places.items c.loop-i.found.numbers.items _ _ i c.first_index-first.result c.index_end-end.result before c.range_at-low.result.0 c.range_at-low.result.1
          c.max-from.result c.min-until.result _ (pos 0, pos 0) r.inside is_high low high some refl reached pairs)
      | else-from-until w ↦
          let test = rw (to_z-of_z fits_from, to_z-of_z fits_until) at w.if-from-until.false in
          let none = from_test c.max-from.result c.min-until.result test in
          rw (w.found-is, w.reached-is)
          (reached_passed xs rs E c.loop-i.found.places.items c.loop-i.found.numbers.items i c.first_index-first.result c.index_end-end.result before c.range_at-low.result.0 c.range_at-low.result.1
          c.max-from.result c.min-until.result (pos 0, pos 0) r.inside is_low is_high low high none reached)
    ])

pub returns : goal.returns
returns c =
    let ds = c.args.store.now.doms in
    let xs = c.args.numbers.now in
    let rs = dom_at ds c.in-Var.variable in
    let E : ℤ → Type 0 = λ n. IsInSet (term_set ds c.args.value) n in
    let fits_first : SFits w32 c.first_index-first.result = search rules in
    let fits_end : SFits w32 c.index_end-end.result = search rules in
    let past : length rs ≤ c.loop-i.i = let count = rw c.dom-left.ensures.dom at c.range_count-i-end.ensures.count in let test = c.loop-i-test.false in omega (arith, count, test) in
    let least = rw c.in-Var.is at c.first_index-first.ensures.below in
    let above = rw c.in-Var.is at c.index_end-end.ensures.above in
    let reached = rw (to_z-of_z fits_first, to_z-of_z fits_end) at c.loop-i.invariant in
    rw c.in-Var.is (reached_all xs rs E c.loop-i.found.places.items c.loop-i.found.numbers.items c.loop-i.i c.first_index-first.result c.index_end-end.result _ past
    (λ k n pair. least k (element_from k xs n pair.stands) pair.index)
    (λ k n pair. above k (element_to k xs n pair.stands) pair.index)
    reached)
