-- What follows from counts of a closed cover, and from inverses.
use Rattle.std.proofs.Common.{◌≡◌, ◌≢◌, inl, inr, ℕ, zero, suc, ◌+◌, ◌<◌, List, [], ◌∷◌, ◌∙◌, refl, sym, ap, subst, arith, length, replicate, Bool, true, false}
use Rattle.std.specs.Prelude.{ℤ, pos, ◌+ℤ◌, ◌*ℤ◌, ◌≤ℤ◌, ◌<ℤ◌, ◌&&◌, int_le, int_lt, nat_lt, Option, Some, None, slice_get, count_by}
use Rattle.std.specs.Ordering.{int_eq}
use Rattle.std.specs.List.{AllByRecursion, list_all}
use Rattle.std.proofs.lemmas.Bool.{and_from, and_parts, cases_eq, false_from_ne_true}
use Rattle.std.proofs.lemmas.Bool.Decides.{Decides-int_eq}
use Rattle.std.proofs.lemmas.Int.{ints}
use Rattle.std.proofs.lemmas.List.{length-map}
use Rattle.fz_sets.specs.Sets.{AreRanges, IsInSet}
use Rattle.fz_sets.proofs.Lists.{all_of, some_is}
use Rattle.fz_dom.specs.Shape.{least, greatest}
use Rattle.fz_dom.proofs.Ranges.{least_below, upper_bound}
use Rattle.fz_spec.specs.declared.kind.Kind.{Kind}
use Rattle.fz_spec.specs.declared.kind.Kind.TheVariants as kinds
use Rattle.fz_spec.specs.declared.term.Term.{Term}
use Rattle.fz_spec.specs.declared.term.Term.TheVariants.{Num, Var}
use Rattle.fz_spec.specs.Constraints.{term_value, term_values}
use Rattle.fz_spec.specs.Instance.{Variable}
use Rattle.fz_spec.specs.Truth.{AreCounts, AreDifferent, AreInverse, PointBack, count_of, weighted_sum}
use Rattle.fz_model.specs.Kept.{HasSetOf, IsVariable}
use Rattle.fz_strength.specs.Domains.{dom_at, number_at, IsTermOf, Within}
use Rattle.fz_strength.proofs.Spreads.{bit, count_more}
use Rattle.fz_prop.specs.Stores.{declared_sets}
use Rattle.fz_engine.specs.Stronger.{are_from, end_of, is_closed, is_set_from, is_term_from}

-- ---- where a number stands among values one after the other

abbrev Lies : ℤ → ℤ → ℤ → Type 0
Lies first end x = (first ≤ℤ x) × (x <ℤ end)

bit_false : (b : Bool) → (b ≡ true → ⊥) → bit b ≡ 0
bit_false true h = absurd (h refl)
bit_false false h = refl

parts_from : (first value : ℤ) (cover : List ℤ) → are_from first (value ∷ cover) ≡ true → (value ≡ first) × (are_from (first +ℤ pos 1) cover ≡ true)
parts_from first value cover are =
    let both = and_parts (int_eq value first) (are_from (first +ℤ pos 1) cover) are in
    ((Decides-int_eq value first).0 both.0, both.1)

-- by their places
pub place_from : (first : ℤ) (xs : List ℤ) (i : ℕ) (x : ℤ) → are_from first xs ≡ true → slice_get xs i ≡ Some x → x ≡ (first +ℤ pos i)
place_from first [] i x are at = absurd (cc (at))
place_from first (y ∷ xs) zero x are at =
    let same = some_is y x at in
    let is = (parts_from first y xs are).0 in
    omega (arith, ints, same, is)
place_from first (y ∷ xs) (suc i) x are at =
    let is = place_from (first +ℤ pos 1) xs i x (parts_from first y xs are).1 at in
    omega (arith, ints, is)

pub not_from : (first : ℤ) (xs : List ℤ) (i : ℕ) (x : ℤ) → slice_get xs i ≡ Some x → (x ≡ (first +ℤ pos i) → ⊥) → false ≡ are_from first xs
not_from first xs i x at other = sym (false_from_ne_true (are_from first xs) (λ are. other (place_from first xs i x are at)))

pub from_places : (first : ℤ) (xs : List ℤ) → ((i : ℕ) (x : ℤ) → slice_get xs i ≡ Some x → x ≡ (first +ℤ pos i)) → are_from first xs ≡ true
from_places first [] each = refl
from_places first (x ∷ xs) each =
    let here : x ≡ first = (let is = each 0 x refl in omega (arith, ints, is)) in
    and_from (int_eq x first) (are_from (first +ℤ pos 1) xs) ((Decides-int_eq x first).1 here)
    (from_places (first +ℤ pos 1) xs (λ i y at. let is = each (suc i) y at in omega (arith, ints, is)))

pub places_more : (first : ℤ) (xs : List ℤ) (n : ℕ) (y : ℤ) → slice_get xs n ≡ Some y → y ≡ (first +ℤ pos n) → ((i : ℕ) (x : ℤ) → i < n → slice_get xs i ≡ Some x → x ≡ (first +ℤ pos i)) → (i : ℕ) (x : ℤ) → i < n + 1
    → slice_get xs i ≡ Some x → x ≡ (first +ℤ pos i)
places_more first xs n y at is so_far i x below at_i = elim (cases_eq i n) [
  | inl here ↦
      let same : y ≡ x = some_is y x (sym at ∙ ap (slice_get xs) (sym here) ∙ at_i) in
      let place = here in
      omega (arith, ints, same, is, place)
  | inr other ↦ so_far i x (omega (arith, below, other)) at_i
]

-- not below the first
none_below : (first x : ℤ) (cover : List ℤ) → are_from first cover ≡ true → x <ℤ first → count_by (int_eq x) cover ≡ 0
none_below first x [] are below = refl
none_below first x (value ∷ cover) are below =
    let both = parts_from first value cover are in
    let is = both.0 in
    let here = bit_false (int_eq x value) (λ same. let e = (Decides-int_eq x value).0 same in absurd (omega (arith, ints, is, below, e))) in
    let rest = none_below (first +ℤ pos 1) x cover both.1 (omega (arith, ints, below)) in
    let more = count_more (int_eq x) value cover in
    omega (arith, here, rest, more)

once_by : (b : Bool) (first value x : ℤ) (n : ℕ) → int_eq x value ≡ b → value ≡ first → first ≤ℤ x → (x <ℤ (first +ℤ pos 1) → n ≡ 0) → ((first +ℤ pos 1) ≤ℤ x → n ≡ 1) → bit b + n ≡ 1
once_by true first value x n test is from none one =
    let same = (Decides-int_eq x value).0 test in
    let rest = none (omega (arith, ints, is, same)) in
    omega (arith, rest)
once_by false first value x n test is from none one =
    let other : x ≡ value → ⊥ = λ same. (let e = (Decides-int_eq x value).1 same in absurd (cc (e, test))) in
    let rest = one (omega (arith, ints, is, from, other)) in
    omega (arith, rest)

-- once from the first to the last
once_among : (first x : ℤ) (cover : List ℤ) → are_from first cover ≡ true → Lies first (end_of first cover) x → count_by (int_eq x) cover ≡ 1
once_among first x [] are within = let from = within.0 in let below = within.1 in absurd (omega (arith, ints, from, below))
once_among first x (value ∷ cover) are within =
    let both = parts_from first value cover are in
    let below = within.1 in
    count_more (int_eq x) value cover
    ∙ once_by (int_eq x value) first value x (count_by (int_eq x) cover) refl both.0 within.0 (λ low. none_below (first +ℤ pos 1) x cover both.1 low)
    (λ high. once_among (first +ℤ pos 1) x cover both.1 (high, omega (arith, ints, below)))

-- ---- the counts of a cover

abbrev counted : List ℤ → List ℤ → ℕ
counted xs [] = 0
counted xs (value ∷ cover) = count_of value xs + counted xs cover

none_counted : (cover : List ℤ) → counted [] cover ≡ 0
none_counted [] = refl
none_counted (value ∷ cover) = let rest = none_counted cover in omega (arith, rest)

one_counted : (x : ℤ) (xs cover : List ℤ) → counted (x ∷ xs) cover ≡ count_by (int_eq x) cover + counted xs cover
one_counted x xs [] = refl
one_counted x xs (value ∷ cover) =
    let here = count_more (λ (y : ℤ). int_eq y value) x xs in
    let there = count_more (int_eq x) value cover in
    let rest = one_counted x xs cover in
    omega (arith, here, there, rest)

all_counted : (first : ℤ) (xs cover : List ℤ) → are_from first cover ≡ true → AllByRecursion (Lies first (end_of first cover)) xs → counted xs cover ≡ length xs
all_counted first [] cover are all = none_counted cover
all_counted first (x ∷ xs) cover are all =
    let one = one_counted x xs cover in
    let once = once_among first x cover are all.0 in
    let rest = all_counted first xs cover are all.1 in
    omega (arith, one, once, rest)

one_more : (c s : ℤ) (n m : ℕ) → c ≡ pos n → s ≡ pos m → ((pos 1 *ℤ c) +ℤ s) ≡ pos (n + m)
one_more c s n m is sum = omega (arith, ints, is, sum)

sum_counted : (xs cover counts : List ℤ) → AreCounts xs cover counts → weighted_sum (replicate (length counts) (pos 1)) counts ≡ pos (counted xs cover)
sum_counted xs [] [] are = refl
sum_counted xs (value ∷ cover) (count ∷ counts) are =
    one_more count (weighted_sum (replicate (length counts) (pos 1)) counts) (count_of value xs) (counted xs cover) are.0 (sum_counted xs cover counts are.1)
sum_counted xs [] (count ∷ counts) are = absurd are
sum_counted xs (value ∷ cover) [] are = absurd are

-- ---- the values of terms

ranges_of : (kind : Kind) (set : List (ℤ × ℤ)) → HasSetOf kind set → AreRanges set
ranges_of kinds.Bool set has = subst AreRanges (sym has) (omega (arith, ints))
ranges_of kinds.Int set has = has.ranges

-- the variable at a place, and its set
has_set : (vs : List Variable) (v : ℕ) (u : Variable) → AllByRecursion IsVariable vs → slice_get vs v ≡ Some u → (dom_at (declared_sets vs) v ≡ u.set) × AreRanges u.set
has_set [] v u sets at = absurd (cc (at))
has_set (w ∷ vs) zero u sets at =
    let same = some_is w u at in
    subst (λ (x : Variable). (w.set ≡ x.set) × AreRanges x.set) same (refl, ranges_of w.kind w.set sets.0)
has_set (w ∷ vs) (suc v) u sets at = has_set vs v u sets.1 at

between : (first end low high x : ℤ) → (int_le first low && int_lt high end) ≡ true → low ≤ℤ x → x ≤ℤ high → Lies first end x
between first end low high x test from to = grind (arith, ints)

variable_lies : (o : Option Variable) (vs : List Variable) (a : List ℤ) (v : ℕ) (first end : ℤ) → slice_get vs v ≡ o → AllByRecursion IsVariable vs → IsInSet (dom_at (declared_sets vs) v) (number_at a v) → is_set_from first end o ≡ true
    → Lies first end (number_at a v)
variable_lies None vs a v first end at sets is test = absurd (cc (test))
variable_lies (Some u) vs a v first end at sets is test =
    let has = has_set vs v u sets at in
    let in_set : IsInSet u.set (number_at a v) = subst (λ (d : List (ℤ × ℤ)). IsInSet d (number_at a v)) has.0 is in
    let parts = and_parts (nat_lt 0 (length u.set)) (int_le first (least u.set) && int_lt (greatest u.set) end) test in
    between first end (least u.set) (greatest u.set) (number_at a v) parts.1 (least_below u.set (number_at a v) has.1 in_set) (upper_bound u.set (number_at a v) has.1 in_set)

term_lies : (vs : List Variable) (a : List ℤ) (t : Term) (first end : ℤ) → AllByRecursion IsVariable vs → Within (declared_sets vs) a → IsTermOf (length vs) t → is_term_from vs first end t ≡ true → Lies first end (term_value a t)
term_lies vs a (Num value) first end sets within is test = let from : value ≤ℤ value = omega (arith, ints) in between first end value value value test from from
term_lies vs a (Var v) first end sets within is test =
    let size = length-map vs (λ (u : Variable). u.set) in
    variable_lies (slice_get vs v) vs a v first end refl sets (within.members v (omega (arith, is, size))) test

terms_lie : (vs : List Variable) (a : List ℤ) (ts : List Term) (first end : ℤ) → AllByRecursion IsVariable vs → Within (declared_sets vs) a → AllByRecursion (IsTermOf (length vs)) ts → list_all (is_term_from vs first end) ts ≡ true
    → AllByRecursion (Lies first end) (term_values a ts)
terms_lie vs a [] first end sets within terms all = tt
terms_lie vs a (t ∷ ts) first end sets within terms all =
    let both = and_parts (is_term_from vs first end t) (list_all (is_term_from vs first end) ts) all in
    (term_lies vs a t first end sets within terms.0 both.0, terms_lie vs a ts first end sets within terms.1 both.1)

-- ---- the counts of a closed cover add up to the number of places

pub total_true : (vs : List Variable) (a : List ℤ) (xs : List Term) (cover : List ℤ) (counts : List Term) → AllByRecursion IsVariable vs → Within (declared_sets vs) a → AllByRecursion (IsTermOf (length vs)) xs
    → is_closed vs xs cover ≡ true → AreCounts (term_values a xs) cover (term_values a counts) → weighted_sum (replicate (length counts) (pos 1)) (term_values a counts) ≡ pos (length xs)
total_true vs a xs [] counts sets within terms closed are = absurd (cc (closed))
total_true vs a xs (first ∷ cover) counts sets within terms closed are =
    let both = and_parts (are_from first (first ∷ cover)) (list_all (is_term_from vs first (end_of first (first ∷ cover))) xs) closed in
    let lie = terms_lie vs a xs first (end_of first (first ∷ cover)) sets within terms both.1 in
    let all = all_counted first (term_values a xs) (first ∷ cover) both.0 lie in
    let sum = sum_counted (term_values a xs) (first ∷ cover) (term_values a counts) are in
    subst (λ (k : ℕ). weighted_sum (replicate k (pos 1)) (term_values a counts) ≡ pos (length xs)) (length-map counts (term_value a)) (sum ∙ ap pos (all ∙ length-map xs (term_value a)))

-- ---- the terms of inverses differ

once_there : (fs gs : List ℤ) (i j : ℕ) (f : ℤ) → PointBack fs gs → slice_get fs i ≡ Some f → slice_get fs j ≡ Some f → i ≡ j
once_there fs gs i j f back at_i at_j =
    let p = back i f at_i in
    let q = back j f at_j in
    let one = p.1 in
    let other = q.1 in
    let place : p.0 ≡ q.0 = omega (arith, ints, one, other) in
    let there : slice_get gs q.0 ≡ Some (pos (i + 1)) = subst (λ (k : ℕ). slice_get gs k ≡ Some (pos (i + 1))) place p.2 in
    let same = some_is (pos (i + 1)) (pos (j + 1)) (sym there ∙ q.2) in
    omega (arith, ints, same)

differ_by_places : (xs : List ℤ) → ((i j : ℕ) (x : ℤ) → slice_get xs i ≡ Some x → slice_get xs j ≡ Some x → i ≡ j) → AreDifferent xs
differ_by_places [] once = tt
differ_by_places (x ∷ xs) once = (
  all_of (λ (y : ℤ). x ≢ y) xs (λ i y at same. let e = once 0 (suc i) x refl (at ∙ ap Some (sym same)) in absurd (omega (arith, e))),
  differ_by_places xs (λ i j y at_i at_j. let e = once (suc i) (suc j) y at_i at_j in omega (arith, e)),
)

pub inverses_differ : (fs gs : List ℤ) → AreInverse fs gs → AreDifferent fs × AreDifferent gs
inverses_differ fs gs are = (
  differ_by_places fs (λ i j f at_i at_j. once_there fs gs i j f are.there at_i at_j),
  differ_by_places gs (λ i j g at_i at_j. once_there gs fs i j g are.back at_i at_j),
)
