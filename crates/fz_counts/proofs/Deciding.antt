-- Counts that hold for good: as many places are sure to have the value as may have it, and the count is that number.
use Rattle.std.proofs.Common.{◌≡◌, ℕ, zero, suc, ◌+◌, ◌<◌, ◌≤◌, List, [], ◌∷◌, refl, sym, subst, arith, length, inl, inr, Bool, true}
use Rattle.std.specs.Prelude.{ℤ, pos, ◌↔◌, ◌&&◌, IsTrue, slice_get, Some}
use Rattle.std.specs.List.{AllByRecursion}
use Rattle.std.proofs.lemmas.Bool.{cases_eq, and_parts}
use Rattle.std.proofs.lemmas.Int.{ints}
use Rattle.std.proofs.lemmas.Option.{slice_get_within}
use Rattle.fz_sets.specs.Sets.{IsInSet}
use Rattle.fz_sets.proofs.Lists.{all_at}
use Rattle.fz_dom.specs.Changes.{IsFromTo}
use Rattle.fz_dom.specs.Shape.{least, greatest}
use Rattle.fz_dom.proofs.Ranges.{least_member, greatest_member}
use Rattle.fz_spec.specs.declared.term.Term.{Term}
use Rattle.fz_spec.specs.Constraints.{term_value, term_values}
use Rattle.fz_spec.specs.Truth.{AreCounts, count_of}
use Rattle.fz_strength.specs.Counts.{fewest, most, IsCountLine, AreCountLines}
use Rattle.fz_strength.specs.Domains.{term_set, AreDomains, Within, IsNarrower, IsTermOf}
use Rattle.fz_prop.specs.declared.answer.Answer.TheVariants.{Subsumed}
use Rattle.fz_prop.specs.Answers.{IsAnswerOf}
use Rattle.fz_prop.proofs.Filled.{term_ranges}
use Rattle.fz_prop.proofs.TermChanges.{term_within, narrower_term}
use Rattle.fz_counts.specs.Counting.{IsCount, AreCountsOf}
use Rattle.fz_counts.proofs.Counting.{at_least, at_most, decided_by, fewest_grows, most_falls, no_fewer}

terms_after : (xs : List Term) (ds es : List (List (ℤ × ℤ))) → IsNarrower ds es → AllByRecursion (IsTermOf (length ds)) xs → AllByRecursion (IsTermOf (length es)) xs
terms_after xs ds es narrower terms = subst (λ (n : ℕ). AllByRecursion (IsTermOf n) xs) (sym narrower.size) terms

-- ---- one value

pub record IsEntailed (xs : List Term) (ds : List (List (ℤ × ℤ))) (value : ℤ) (count : Term) : Type 0 where
  pub decided : most xs ds value ≤ fewest xs ds value
  pub counted : (x : ℤ) → IsInSet (term_set ds count) x → x ≡ pos (fewest xs ds value)

-- where less is left, as many are sure to have it
still_as_many : (xs : List Term) (ds es : List (List (ℤ × ℤ))) (value : ℤ) → AllByRecursion (IsTermOf (length ds)) xs → AreDomains ds → AreDomains es → IsNarrower ds es → most xs ds value ≤ fewest xs ds value
    → (fewest xs es value ≡ fewest xs ds value) × (most xs es value ≤ fewest xs es value)
still_as_many xs ds es value terms before after narrower few =
    let grows = fewest_grows ds es value xs terms before after narrower in
    let falls = most_falls ds es value xs narrower in
    let fewer = no_fewer es value xs (terms_after xs ds es narrower terms) after in
    (omega (arith, grows, falls, fewer, few), omega (arith, grows, falls, few))

entailed_by : (xs : List Term) (ds es : List (List (ℤ × ℤ))) (value : ℤ) (count : Term) (f m : ℕ) → AllByRecursion (IsTermOf (length ds)) xs → AreDomains ds → AreDomains es → IsNarrower ds es
    → f ≡ fewest xs ds value → m ≡ most xs ds value → f ≡ m → ((x : ℤ) → IsInSet (term_set es count) x → IsFromTo (pos f) (pos m) x) → IsEntailed xs es value count
entailed_by xs ds es value count f m terms before after narrower is_f is_m one between =
    let same = still_as_many xs ds es value terms before after narrower (omega (arith, is_f, is_m, one)) in
    let few = same.0 in
    record {
      decided = same.1;
      counted = λ x is. (let low = (between x is).0 in let high = (between x is).1 in omega (arith, ints, low, high, one, few, is_f));
    }

entailed_after : (xs : List Term) (ds es : List (List (ℤ × ℤ))) (value : ℤ) (count : Term) → AllByRecursion (IsTermOf (length ds)) xs → AreDomains ds → AreDomains es → IsNarrower ds es
    → IsEntailed xs ds value count → IsEntailed xs es value count
entailed_after xs ds es value count terms before after narrower h =
    let same = still_as_many xs ds es value terms before after narrower h.decided in
    let few = same.0 in
    record {
      decided = same.1;
      counted = λ x is. (let was = h.counted x (narrower_term ds es count narrower x is) in omega (arith, ints, was, few));
    }

entailed_true : (xs : List Term) (ds : List (List (ℤ × ℤ))) (a : List ℤ) (value : ℤ) (count : Term) → AllByRecursion (IsTermOf (length ds)) xs → IsTermOf (length ds) count → AreDomains ds
    → Within ds a → IsEntailed xs ds value count → IsCount xs value count a
entailed_true xs ds a value count terms term domains within h =
    let from = at_least ds a value xs terms domains within in
    let to = at_most ds a value xs terms within in
    let few = h.decided in
    let is = h.counted (term_value a count) (term_within ds a count term within) in
    omega (arith, ints, from, to, few, is)

entailed_line : (xs : List Term) (ds : List (List (ℤ × ℤ))) (value : ℤ) (count : Term) → AllByRecursion (IsTermOf (length ds)) xs → IsTermOf (length ds) count → AreDomains ds
    → IsEntailed xs ds value count → IsCountLine xs ds value count
entailed_line xs ds value count terms term domains h =
    let d = term_set ds count in
    let has = term_ranges ds count term domains in
    let bottom = h.counted (least d) (least_member d has.some has.ranges).0 in
    let top = h.counted (greatest d) (greatest_member d has.some has.ranges).0 in
    let fewer = no_fewer ds value xs terms domains in
    record {
      low = omega (arith, ints, bottom);
      high = omega (arith, ints, top, fewer);
      full = λ e. decided_by ds value xs terms domains h.decided;
      needed = λ e. decided_by ds value xs terms domains h.decided;
    }

-- ---- the values of a cover

-- those before place k hold for good
abbrev pub AreEntailed : List Term → List ℤ → List Term → List (List (ℤ × ℤ)) → ℕ → Type 0
AreEntailed xs cover counts ds k = (j : ℕ) (value : ℤ) (count : Term) → j < k → slice_get cover j ≡ Some value → slice_get counts j ≡ Some count → IsEntailed xs ds value count

pub entailed_none : (xs : List Term) (cover : List ℤ) (counts : List Term) (ds : List (List (ℤ × ℤ))) → AreEntailed xs cover counts ds 0
entailed_none xs cover counts ds j value count below = absurd (omega (arith, below))

entailed_more : (xs : List Term) (cover : List ℤ) (counts : List Term) (ds es : List (List (ℤ × ℤ))) (k : ℕ) (value : ℤ) (count : Term) → slice_get cover k ≡ Some value → slice_get counts k ≡ Some count
    → AllByRecursion (IsTermOf (length ds)) xs → AreDomains ds → AreDomains es → IsNarrower ds es → IsEntailed xs es value count → AreEntailed xs cover counts ds k → AreEntailed xs cover counts es (k + 1)
entailed_more xs cover counts ds es k value count at_value at_count terms before after narrower here h j v c below at_v at_c = elim (cases_eq j k) [
  | inl e ↦
      let same_value : value ≡ v = cc (at_value, subst (λ (m : ℕ). slice_get cover m ≡ Some v) e at_v) in
      let same_count : count ≡ c = cc (at_count, subst (λ (m : ℕ). slice_get counts m ≡ Some c) e at_c) in
      subst (λ (n : ℤ). IsEntailed xs es n c) same_value (subst (λ (u : Term). IsEntailed xs es value u) same_count here)
  | inr other ↦ entailed_after xs ds es v c terms before after narrower (h j v c (omega (arith, below, other)) at_v at_c)
]

-- those up to place k do if all before it do, and its value is decided
pub entailed_next : (xs : List Term) (cover : List ℤ) (counts : List Term) (ds es : List (List (ℤ × ℤ))) (k : ℕ) (value : ℤ) (count : Term) (f m : ℕ) (were is : Bool) → slice_get cover k ≡ Some value
    → slice_get counts k ≡ Some count → AllByRecursion (IsTermOf (length ds)) xs → AreDomains ds → AreDomains es → IsNarrower ds es → f ≡ fewest xs ds value → m ≡ most xs ds value
    → ((x : ℤ) → IsInSet (term_set es count) x → IsFromTo (pos f) (pos m) x) → IsTrue is ↔ (f ≡ m) → (were ≡ true → AreEntailed xs cover counts ds k) → (were && is) ≡ true → AreEntailed xs cover counts es (k + 1)
entailed_next xs cover counts ds es k value count f m were is at_value at_count terms before after narrower is_f is_m between decides h both =
    let parts = and_parts were is both in
    entailed_more xs cover counts ds es k value count at_value at_count terms before after narrower
    (entailed_by xs ds es value count f m terms before after narrower is_f is_m (decides.0 parts.1) between) (h parts.0)

all_counts : (vs cover : List ℤ) (counts : List Term) (a : List ℤ) → length cover ≡ length counts
    → ((j : ℕ) (value : ℤ) (count : Term) → slice_get cover j ≡ Some value → slice_get counts j ≡ Some count → term_value a count ≡ pos (count_of value vs)) → AreCounts vs cover (term_values a counts)
all_counts vs [] [] a same each = tt
all_counts vs (value ∷ cover) (count ∷ counts) a same each = (each zero value count refl refl, all_counts vs cover counts a (omega (arith, same)) (λ j v c at_v at_c. each (suc j) v c at_v at_c))
all_counts vs [] (count ∷ counts) a same each = absurd (omega (arith, same))
all_counts vs (value ∷ cover) [] a same each = absurd (omega (arith, same))

pub entailed_all : (xs : List Term) (cover : List ℤ) (counts : List Term) (ds es : List (List (ℤ × ℤ))) (k : ℕ) → length cover ≡ length counts → length cover ≤ k → AllByRecursion (IsTermOf (length es)) xs
    → AllByRecursion (IsTermOf (length es)) counts → AreDomains es → AreEntailed xs cover counts es k → IsAnswerOf Subsumed (AreCountsOf xs cover counts) (AreCountLines xs cover counts) ds es
entailed_all xs cover counts ds es k same end terms numbers domains h = (
  (λ a within. all_counts (term_values a xs) cover counts a same
      (λ j value count at_value at_count.
      let inside = slice_get_within cover j value at_value in
      entailed_true xs es a value count terms (all_at (IsTermOf (length es)) counts j count numbers at_count) domains within (h j value count (omega (arith, inside, end)) at_value at_count))),
  (λ fs after narrower. record {
    size = same;
    each = λ j value count at_value at_count.
        let inside = slice_get_within cover j value at_value in
        entailed_line xs fs value count (terms_after xs es fs narrower terms) (all_at (IsTermOf (length fs)) counts j count (terms_after counts es fs narrower numbers) at_count) after
        (entailed_after xs es fs value count terms domains after narrower (h j value count (omega (arith, inside, end)) at_value at_count));
  }),
)
