-- Two terms in order.
use Rattle.std.proofs.Common.{◌≡◌, List, subst, length, arith, Bool, true, false}
use Rattle.std.specs.Prelude.{ℤ, ◌+ℤ◌, ◌-ℤ◌, ◌≤ℤ◌, ◌<◌}
use Rattle.std.proofs.lemmas.Int.{ints}
use Rattle.fz_sets.specs.Sets.{IsInSet, AreRanges}
use Rattle.fz_dom.specs.Shape.{least, greatest}
use Rattle.fz_dom.proofs.Ranges.{least_member, greatest_member}
use Rattle.fz_dom.specs.declared.change.Change.{Change}
use Rattle.fz_dom.specs.declared.change.Change.TheVariants.{Same}
use Rattle.fz_spec.specs.declared.term.Term.{Term}
use Rattle.fz_spec.specs.Constraints.{term_value}
use Rattle.fz_spec.specs.Truth.{Relates}
use Rattle.fz_strength.specs.Relations.{RestsAs}
use Rattle.fz_strength.specs.Domains.{term_set, AreDomains, IsTermOf}
use Rattle.fz_prop.specs.declared.answer.Answer.TheVariants.{Subsumed}
use Rattle.fz_prop.specs.Answers.{IsCorrectOf}
use Rattle.fz_prop.specs.Stores.{Stored, Shrinks, IsTermChange}
use Rattle.fz_rel.specs.Truths.{TruthOf, IsAnswerAs, order_of, gap_of, IsOrdered}
use Rattle.fz_prop.proofs.Filled.{term_ranges, narrower_ranges}
use Rattle.fz_prop.proofs.TermChanges.{term_within, narrower_term, within_kept, kept_term, same_store}

pub to_order : (strict : Bool) (x y : ℤ) → Relates (order_of strict) x y → IsOrdered strict x y
to_order true x y h = omega (arith, ints, h)
to_order false x y h = omega (arith, ints, h)

pub from_order : (strict : Bool) (x y : ℤ) → IsOrdered strict x y → Relates (order_of strict) x y
from_order true x y h = omega (arith, ints, h)
from_order false x y h = omega (arith, ints, h)

pub line : (strict : Bool) (d e : List (ℤ × ℤ)) → IsOrdered strict (least d) (least e) → IsOrdered strict (greatest d) (greatest e) → RestsAs (order_of strict) d e
line true d e low high = (from_order true (least d) (least e) low, from_order true (greatest d) (greatest e) high)
line false d e low high = (from_order false (least d) (least e) low, from_order false (greatest d) (greatest e) high)

-- ---- numbers before the greatest of the other, and after the least

pub before_greatest : (strict : Bool) (x y u w : ℤ) → Relates (order_of strict) x y → y ≤ℤ u → w ≡ u -ℤ gap_of strict → x ≤ℤ w
before_greatest strict x y u w h up is = let o = to_order strict x y h in omega (arith, ints, o, up, is)

pub behind_least : (strict : Bool) (x y u w : ℤ) → Relates (order_of strict) x y → u ≤ℤ x → w ≡ u +ℤ gap_of strict → w ≤ℤ y
behind_least strict x y u w h low is = let o = to_order strict x y h in omega (arith, ints, o, low, is)

-- x keeps the numbers up to w, where w is before the greatest of y
pub correct_high : (strict : Bool) (change : Change) (x y : Term) (u w : ℤ) (r s : Stored) → IsTermOf (length r.doms) y
    → ((z : ℤ) → IsInSet (term_set r.doms y) z → z ≤ℤ u) → w ≡ u -ℤ gap_of strict
    → IsTermChange change x (λ z. z ≤ℤ w) r s → Shrinks r s → IsCorrectOf (TruthOf (order_of strict) x y) r.doms s.doms
correct_high strict change x y u w r s is_y upper is h shrinks a holds within =
    within_kept change x (λ z. z ≤ℤ w) r s a h shrinks within
    (before_greatest strict (term_value a x) (term_value a y) u w holds (upper (term_value a y) (term_within r.doms a y is_y within)) is)

-- y keeps the numbers from w on, where w is after the least of x
pub correct_low : (strict : Bool) (change : Change) (x y : Term) (u w : ℤ) (r s : Stored) → IsTermOf (length r.doms) x
    → ((z : ℤ) → IsInSet (term_set r.doms x) z → u ≤ℤ z) → w ≡ u +ℤ gap_of strict
    → IsTermChange change y (λ z. w ≤ℤ z) r s → Shrinks r s → IsCorrectOf (TruthOf (order_of strict) x y) r.doms s.doms
correct_low strict change x y u w r s is_x lower is h shrinks a holds within =
    within_kept change y (λ z. w ≤ℤ z) r s a h shrinks within
    (behind_least strict (term_value a x) (term_value a y) u w holds (lower (term_value a x) (term_within r.doms a x is_x within)) is)

-- ---- where all are in order

shown_line : (strict : Bool) (d e : List (ℤ × ℤ)) → ((z u : ℤ) → IsInSet d z → IsInSet e u → IsOrdered strict z u)
    → AreRanges d → 0 < length d → AreRanges e → 0 < length e → RestsAs (order_of strict) d e
shown_line strict d e all ranges_d some_d ranges_e some_e =
    line strict d e (all (least d) (least e) (least_member d some_d ranges_d).0 (least_member e some_e ranges_e).0)
    (all (greatest d) (greatest e) (greatest_member d some_d ranges_d).0 (greatest_member e some_e ranges_e).0)

pub all_ordered : (strict : Bool) (x y : Term) (ds : List (List (ℤ × ℤ))) (u w : ℤ) → IsTermOf (length ds) x → IsTermOf (length ds) y
    → ((z : ℤ) → IsInSet (term_set ds x) z → z ≤ℤ u) → ((z : ℤ) → IsInSet (term_set ds y) z → w ≤ℤ z) → (u +ℤ gap_of strict) ≤ℤ w
    → IsAnswerAs (order_of strict) x y Subsumed ds ds
all_ordered strict x y ds u w is_x is_y upper lower apart =
    let all : (z v : ℤ) → IsInSet (term_set ds x) z → IsInSet (term_set ds y) v → IsOrdered strict z v =
    λ z v in_x in_y. let up = upper z in_x in let low = lower v in_y in omega (arith, ints, apart, up, low) in (
      (λ a within. from_order strict (term_value a x) (term_value a y) (all (term_value a x) (term_value a y) (term_within ds a x is_x within) (term_within ds a y is_y within))),
      (λ es domains narrower.
          let rx = narrower_ranges ds es x is_x domains narrower in
          let ry = narrower_ranges ds es y is_y domains narrower in
          shown_line strict (term_set es x) (term_set es y)
          (λ z v in_x in_y. all z v (narrower_term ds es x narrower z in_x) (narrower_term ds es y narrower v in_y)) rx.ranges rx.some ry.ranges ry.some),
    )

-- ---- where nothing changed

-- the greatest of x is before the greatest of y
pub high_order : (strict : Bool) (x y : Term) (w : ℤ) (r s : Stored) → IsTermOf (length r.doms) x → AreDomains r.doms → w ≡ greatest (term_set r.doms y) -ℤ gap_of strict
    → IsTermChange Same x (λ z. z ≤ℤ w) r s → IsOrdered strict (greatest (term_set s.doms x)) (greatest (term_set s.doms y))
high_order strict x y w r s is_x domains is h =
    let at_x = term_ranges r.doms x is_x domains in
    let same : s ≡ r = same_store x (λ z. z ≤ℤ w) r s h in
    let top : IsInSet (term_set s.doms x) (greatest (term_set r.doms x)) = rw same (greatest_member (term_set r.doms x) at_x.some at_x.ranges).0 in
    let kept : greatest (term_set r.doms x) ≤ℤ w = (kept_term Same x (λ z. z ≤ℤ w) r s h (λ e. cc (e)) (greatest (term_set r.doms x)) top).1 in
    rw same (omega (arith, ints, kept, is))

-- the least of x is before the least of y
pub low_order : (strict : Bool) (x y : Term) (w : ℤ) (r s : Stored) → IsTermOf (length r.doms) y → AreDomains r.doms → w ≡ least (term_set r.doms x) +ℤ gap_of strict
    → IsTermChange Same y (λ z. w ≤ℤ z) r s → IsOrdered strict (least (term_set s.doms x)) (least (term_set s.doms y))
low_order strict x y w r s is_y domains is h =
    let at_y = term_ranges r.doms y is_y domains in
    let same : s ≡ r = same_store y (λ z. w ≤ℤ z) r s h in
    let low : IsInSet (term_set s.doms y) (least (term_set r.doms y)) = rw same (least_member (term_set r.doms y) at_y.some at_y.ranges).0 in
    let kept : w ≤ℤ least (term_set r.doms y) = (kept_term Same y (λ z. w ≤ℤ z) r s h (λ e. cc (e)) (least (term_set r.doms y)) low).1 in
    rw same (omega (arith, ints, kept, is))

-- what is correct of the same store is correct
pub correct_from : (T : List ℤ → Type 0) (r s t : Stored) → s ≡ r → IsCorrectOf T s.doms t.doms → IsCorrectOf T r.doms t.doms
correct_from T r s t same h = subst (λ (u : Stored). IsCorrectOf T u.doms t.doms) same h
