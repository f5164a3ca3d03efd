-- The line of counts lasts while no place changes and no bound of a count moves, and tells the truth where one number is left of each
-- term.
use Rattle.std.proofs.Common.{◌≡◌, ℕ, zero, suc, ◌+◌, List, [], ◌∷◌, ◌∙◌, refl, sym, ap, subst, arith, length, true, Bool, inl, inr}
use Rattle.std.specs.Prelude.{ℤ, pos, ◌≤ℤ◌, int_le, ◌&&◌, count_by, slice_get, Some}
use Rattle.std.specs.Ordering.{int_eq}
use Rattle.std.specs.List.{AllByRecursion, list_any}
use Rattle.std.proofs.lemmas.Bool.{and_from, or_cases, or_left, or_right}
use Rattle.std.proofs.lemmas.Bool.Decides.{Decides-int_eq}
use Rattle.std.proofs.lemmas.Int.{ints}
use Rattle.fz_sets.specs.Sets.{IsInSet}
use Rattle.fz_sets.proofs.Lists.{all_at, all_left, all_right, all_both}
use Rattle.fz_dom.specs.Shape.{least, greatest}
use Rattle.fz_spec.specs.declared.term.Term.{Term}
use Rattle.fz_spec.specs.Constraints.{term_value, term_values}
use Rattle.fz_spec.specs.Truth.{AreCounts, count_of}
use Rattle.fz_strength.specs.declared.event.Event.TheVariants.{Any, Bound}
use Rattle.fz_strength.specs.Counts.{may_be, is_surely, fewest, most, IsDecided, IsCountLine, AreCountLines, global_cardinality}
use Rattle.fz_strength.specs.Domains.{term_set, IsTermOf}
use Rattle.fz_strength.specs.Events.{IsQuiet, IsOnly, AreSingle, waits_for}
use Rattle.fz_strength.specs.Meanings.{IsLawful}
use Rattle.fz_strength.proofs.Spreads.{bit, count_more, count_le, both_le, both_from}
use Rattle.fz_strength.proofs.Terms.{is_single, AreQuietAt, terms_quiet, terms_alone, waits_below, Quiet, Below}

-- ---- what is left of a term

pub left_is : (d : List (ℤ × ℤ)) (value : ℤ) → list_any (λ (r : ℤ × ℤ). int_le r.0 value && int_le value r.1) d ≡ true → IsInSet d value
left_is [] value h = absurd (cc (h))
left_is (r ∷ rs) value h = elim (or_cases (int_le r.0 value && int_le value r.1) (list_any (λ (s : ℤ × ℤ). int_le s.0 value && int_le value s.1) rs) h) [
  | inl here ↦ inl (both_le r.0 value value r.1 here)
  | inr more ↦ inr (left_is rs value more)
]

pub is_left : (d : List (ℤ × ℤ)) (value : ℤ) → IsInSet d value → list_any (λ (r : ℤ × ℤ). int_le r.0 value && int_le value r.1) d ≡ true
is_left [] value is = absurd is
is_left (r ∷ rs) value is = elim is [
  | inl here ↦ or_left (int_le r.0 value && int_le value r.1) (list_any (λ (s : ℤ × ℤ). int_le s.0 value && int_le value s.1) rs) (both_from r.0 value value r.1 here.0 here.1)
  | inr more ↦ or_right (int_le r.0 value && int_le value r.1) (list_any (λ (s : ℤ × ℤ). int_le s.0 value && int_le value s.1) rs) (is_left rs value more)
]

-- ---- the places that have a value

abbrev pub has_value : List ℤ → ℤ → Term → Bool
has_value a value t = int_eq (term_value a t) value

pub count_values : (a : List ℤ) (value : ℤ) (xs : List Term) → count_by (has_value a value) xs ≡ count_of value (term_values a xs)
count_values a value [] = refl
count_values a value (x ∷ xs) =
    count_more (has_value a value) x xs ∙ ap (λ (n : ℕ). bit (has_value a value x) + n) (count_values a value xs) ∙ sym (count_more (λ (y : ℤ). int_eq y value) (term_value a x) (term_values a xs))

-- ---- it lasts

count_same : {X : Type 0} (p q : X → Bool) (xs : List X) → AllByRecursion (λ (x : X). p x ≡ q x) xs → count_by p xs ≡ count_by q xs
count_same p q [] same = refl
count_same p q (x ∷ xs) same = count_more p x xs ∙ ap (λ (b : Bool). bit b + count_by p xs) same.0 ∙ ap (λ (n : ℕ). bit (q x) + n) (count_same p q xs same.1) ∙ sym (count_more q x xs)

all_same : (f : List (ℤ × ℤ) → Bool) (xs : List Term) (ds es : List (List (ℤ × ℤ))) → AreQuietAt Any ds es xs → AllByRecursion (λ (t : Term). f (term_set ds t) ≡ f (term_set es t)) xs
all_same f [] ds es quiet = tt
all_same f (x ∷ xs) ds es quiet = (ap f quiet.0, all_same f xs ds es quiet.1)

fewest_same : (xs : List Term) (ds es : List (List (ℤ × ℤ))) (value : ℤ) → AreQuietAt Any ds es xs → fewest xs ds value ≡ fewest xs es value
fewest_same xs ds es value quiet = count_same (is_surely ds value) (is_surely es value) xs (all_same (λ (d : List (ℤ × ℤ)). int_eq (least d) value && int_eq (greatest d) value) xs ds es quiet)

most_same : (xs : List Term) (ds es : List (List (ℤ × ℤ))) (value : ℤ) → AreQuietAt Any ds es xs → most xs ds value ≡ most xs es value
most_same xs ds es value quiet = count_same (may_be ds value) (may_be es value) xs (all_same (λ (d : List (ℤ × ℤ)). list_any (λ (r : ℤ × ℤ). int_le r.0 value && int_le value r.1) d) xs ds es quiet)

decided_same : (xs : List Term) (ds es : List (List (ℤ × ℤ))) (value : ℤ) → AreQuietAt Any ds es xs → IsDecided xs ds value → IsDecided xs es value
decided_same [] ds es value quiet h = tt
decided_same (x ∷ xs) ds es value quiet h = (subst (λ (d : List (ℤ × ℤ)). IsInSet d value → IsOnly d value) quiet.0 h.0, decided_same xs ds es value quiet.1 h.1)

kept_count : (xs : List Term) (ds es : List (List (ℤ × ℤ))) (value : ℤ) (count : Term) → AreQuietAt Any ds es xs → IsQuiet Bound (term_set ds count) (term_set es count)
    → IsCountLine xs ds value count → IsCountLine xs es value count
kept_count xs ds es value count quiet bound h =
    let few : fewest xs ds value ≡ fewest xs es value = fewest_same xs ds es value quiet in
    let many : most xs ds value ≡ most xs es value = most_same xs ds es value quiet in
    let bottom = bound.0 in
    let top = bound.1 in
    let low = h.low in
    let high = h.high in
    record {
      low = omega (arith, ints, few, bottom, low);
      high = omega (arith, ints, many, top, high);
      full = λ is. decided_same xs ds es value quiet (h.full (bound.1 ∙ is ∙ ap pos (sym few)));
      needed = λ is. decided_same xs ds es value quiet (h.needed (bound.0 ∙ is ∙ ap pos (sym many)));
    }

kept_counts : (xs : List Term) (cover : List ℤ) (counts : List Term) (ds es : List (List (ℤ × ℤ))) → AreQuietAt Any ds es xs → AreQuietAt Bound ds es counts
    → AreCountLines xs cover counts ds → AreCountLines xs cover counts es
kept_counts xs cover counts ds es quiet bounds h = record {
  size = h.size;
  each = λ j value count at_value at_count.
      kept_count xs ds es value count quiet (all_at (λ (t : Term). IsQuiet Bound (term_set ds t) (term_set es t)) counts j count bounds at_count) (h.each j value count at_value at_count);
}

-- ---- where one number is left of each

single_surely : (d : List (ℤ × ℤ)) (v value : ℤ) → IsOnly d v → int_eq v value ≡ true → (int_eq (least d) value && int_eq (greatest d) value) ≡ true
single_surely d v value only is = rw only (and_from (int_eq v value) (int_eq v value) is is)

all_surely : (xs : List Term) (ds : List (List (ℤ × ℤ))) (a : List ℤ) (value : ℤ) → AreSingle ds a xs → AllByRecursion (λ (t : Term). has_value a value t ≡ true → is_surely ds value t ≡ true) xs
all_surely [] ds a value single = tt
all_surely (x ∷ xs) ds a value single = ((λ is. single_surely (term_set ds x) (term_value a x) value single.0 is), all_surely xs ds a value single.1)

single_had : (d : List (ℤ × ℤ)) (v value : ℤ) → IsOnly d v → IsInSet d value → int_eq v value ≡ true
single_had d v value only is = (Decides-int_eq v value).1 (sym (is_single value v (subst (λ (e : List (ℤ × ℤ)). IsInSet e value) only is)))

all_had : (xs : List Term) (ds : List (List (ℤ × ℤ))) (a : List ℤ) (value : ℤ) → AreSingle ds a xs → AllByRecursion (λ (t : Term). may_be ds value t ≡ true → has_value a value t ≡ true) xs
all_had [] ds a value single = tt
all_had (x ∷ xs) ds a value single = ((λ is. single_had (term_set ds x) (term_value a x) value single.0 (left_is (term_set ds x) value is)), all_had xs ds a value single.1)

count_true : (xs : List Term) (ds : List (List (ℤ × ℤ))) (a : List ℤ) (value : ℤ) (count : Term) → AreSingle ds a xs → IsOnly (term_set ds count) (term_value a count)
    → IsCountLine xs ds value count → term_value a count ≡ pos (count_of value (term_values a xs))
count_true xs ds a value count single only h =
    let low : pos (fewest xs ds value) ≤ℤ term_value a count = subst (λ (d : List (ℤ × ℤ)). pos (fewest xs ds value) ≤ℤ least d) only h.low in
    let high : term_value a count ≤ℤ pos (most xs ds value) = subst (λ (d : List (ℤ × ℤ)). greatest d ≤ℤ pos (most xs ds value)) only h.high in
    let sure = count_le (has_value a value) (is_surely ds value) xs (all_surely xs ds a value single) in
    let had = count_le (may_be ds value) (has_value a value) xs (all_had xs ds a value single) in
    let counted = count_values a value xs in
    omega (arith, ints, low, high, sure, had, counted)

counts_true : (xs : List Term) (cover : List ℤ) (counts : List Term) (ds : List (List (ℤ × ℤ))) (a : List ℤ) → AreSingle ds a xs → AreSingle ds a counts → length cover ≡ length counts
    → ((j : ℕ) (value : ℤ) (count : Term) → slice_get cover j ≡ Some value → slice_get counts j ≡ Some count → IsCountLine xs ds value count)
    → AreCounts (term_values a xs) cover (term_values a counts)
counts_true xs [] [] ds a single only same each = tt
counts_true xs (value ∷ cover) (count ∷ counts) ds a single only same each = (
  count_true xs ds a value count single only.0 (each zero value count refl refl),
  counts_true xs cover counts ds a single only.1 (omega (arith, same)) (λ j v c at_v at_c. each (suc j) v c at_v at_c),
)
counts_true xs [] (count ∷ counts) ds a single only same each = absurd (omega (arith, same))
counts_true xs (value ∷ cover) [] ds a single only same each = absurd (omega (arith, same))

-- ---- what it means

pub global_cardinality_lawful : (xs : List Term) (cover : List ℤ) (counts : List Term) → IsLawful (global_cardinality xs cover counts)
global_cardinality_lawful xs cover counts = record {
  kept = λ ds es domains narrower quiet h.
      kept_counts xs cover counts ds es (terms_quiet Any xs ds es (all_left (Quiet ds es) (waits_for Any xs) (waits_for Bound counts) quiet))
      (terms_quiet Bound counts ds es (all_right (Quiet ds es) (waits_for Any xs) (waits_for Bound counts) quiet)) h;
  alone = λ ds a below alone h.
      counts_true xs cover counts ds a (terms_alone Any xs ds a (all_left (Below (length ds)) (waits_for Any xs) (waits_for Bound counts) below) alone)
      (terms_alone Bound counts ds a (all_right (Below (length ds)) (waits_for Any xs) (waits_for Bound counts) below) alone) h.size h.each;
  below = λ n all.
      all_both (Below n) (waits_for Any xs) (waits_for Bound counts) (waits_below Any xs n (all_left (IsTermOf n) xs counts all)) (waits_below Bound counts n (all_right (IsTermOf n) xs counts all));
}
