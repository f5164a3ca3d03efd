-- The least or the greatest of terms, without those that are beaten.
use Rattle.std.proofs.Common.{◌≡◌, ℕ, zero, suc, ◌<◌, ◌≤◌, ◌+◌, ◌-◌, List, [], ◌∷◌, ◌++◌, map, length, get_or, take, drop, refl, sym, ap, ◌∙◌, subst, arith, inl, inr}
use Rattle.std.specs.Prelude.{ℤ, ◌≤ℤ◌, ◌<ℤ◌, ◌↔◌, Some, slice_get}
use Rattle.std.specs.Int.{int_min, int_max}
use Rattle.std.specs.List.{AllByRecursion, fold}
use Rattle.std.proofs.lemmas.Bool.{cases_eq}
use Rattle.std.proofs.lemmas.Int.{ints}
use Rattle.fz_sets.specs.Sets.{IsInSet}
use Rattle.fz_sets.proofs.Lists.{some_is, all_left, all_right, all_both, all_map, all_of, all_at}
use Rattle.fz_dom.proofs.Ranges.{least_member, greatest_member}
use Rattle.fz_spec.specs.declared.term.Term.{Term}
use Rattle.fz_spec.specs.Constraints.{term_value}
use Rattle.fz_spec.specs.Truth.{SomeByRecursion}
use Rattle.fz_spec.specs.declared.shape.Operation.{Operation}
use Rattle.fz_spec.specs.declared.shape.Operation.TheVariants.{Min, Max}
use Rattle.fz_strength.specs.Domains.{term_set, AreDomains, Within, IsNarrower, IsTermOf}
use Rattle.fz_strength.specs.Operations.{equation, EquationTruth, IsEquationLine, IsBounded, low_of, high_of, between, result_bounds}
use Rattle.fz_strength.proofs.Clauses.{all_unmap, some_map, some_append}
use Rattle.fz_strength.proofs.OperationLaws.{least_is, greatest_is}
use Rattle.fz_strength.proofs.Terms.{within_before}
use Rattle.fz_prop.specs.Told.{IsBeaten, AreDoneBelow, AreDoneBehind}
use Rattle.fz_prop.proofs.Lasting.{done_lasts, beaten_lasts}
use Rattle.fz_prop.specs.declared.answer.Answer.{Answer}
use Rattle.fz_prop.specs.declared.answer.Answer.TheVariants.{Fix, NoFix, Subsumed, Failed}
use Rattle.fz_prop.specs.Answers.{IsAnswerOf, IsCorrectOf}
use Rattle.fz_prop.proofs.Filled.{term_ranges}
use Rattle.fz_prop.proofs.TermChanges.{term_within}
use Rattle.fz_prop.proofs.Twice.{narrower_twice}
use Rattle.fz_arith.specs.Extremes.{IsExtreme, AreEndsBeaten}

-- ---- a list, and a part of it

split_at : (n : ℕ) (xs : List Term) → xs ≡ take n xs ++ drop n xs
split_at zero xs = refl
split_at (suc n) [] = refl
split_at (suc n) (x ∷ xs) = ap (λ (ys : List Term). x ∷ ys) (split_at n xs)

take_at : (xs : List Term) (n i : ℕ) (t : Term) → slice_get (take n xs) i ≡ Some t → (slice_get xs i ≡ Some t) × (i < n)
take_at [] zero i t at = absurd (cc (at))
take_at [] (suc n) i t at = absurd (cc (at))
take_at (x ∷ xs) zero i t at = absurd (cc (at))
take_at (x ∷ xs) (suc n) zero t at = (at, omega arith)
take_at (x ∷ xs) (suc n) (suc i) t at = let rest = take_at xs n i t at in (rest.0, let below = rest.1 in omega (arith, below))

drop_at : (xs : List Term) (n i j : ℕ) (t : Term) → j ≡ n + i → slice_get (drop n xs) i ≡ Some t → slice_get xs j ≡ Some t
drop_at xs zero i j t is at = subst (λ (k : ℕ). slice_get xs k ≡ Some t) (omega (arith, is)) at
drop_at [] (suc n) i j t is at = absurd (cc (at))
drop_at (x ∷ xs) (suc n) i zero t is at = absurd (omega (arith, is))
drop_at (x ∷ xs) (suc n) i (suc j) t is at = drop_at xs n i j t (omega (arith, is)) at

got : (xs : List Term) (i : ℕ) (d : Term) → i < length xs → slice_get xs i ≡ Some (get_or xs i d)
got [] i d inside = absurd (omega (arith, inside))
got (x ∷ xs) zero d inside = refl
got (x ∷ xs) (suc i) d inside = got xs i d (omega (arith, inside))

-- a term of a store that is beaten
pub record IsOut (operation : Operation) (ds : List (List (ℤ × ℤ))) (z t : Term) : Type 0 where
  pub of : IsTermOf (length ds) t
  pub beaten : IsBeaten operation ds z t

-- the terms before and after a part are beaten
pub record IsPart (operation : Operation) (ds : List (List (ℤ × ℤ))) (z : Term) (xs mid : List Term) : Type 0 where
  pub ahead : List Term
  pub behind : List Term
  pub whole : xs ≡ ahead ++ (mid ++ behind)
  pub value : IsTermOf (length ds) z
  pub front : AllByRecursion (IsOut operation ds z) ahead
  pub back : AllByRecursion (IsOut operation ds z) behind

pub part_is : (operation : Operation) (ds : List (List (ℤ × ℤ))) (z : Term) (xs : List Term) (front back start end : ℕ) → IsTermOf (length ds) z → AllByRecursion (IsTermOf (length ds)) xs
    → start ≤ front → start ≤ end → length xs ≤ end + back → AreEndsBeaten operation xs z front back ds → IsPart operation ds z xs (take (end - start) (drop start xs))
part_is operation ds z xs front back start end value are first ordered last told = record {
  ahead = take start xs;
  behind = drop (end - start) (drop start xs);
  whole = split_at start xs ∙ ap (λ (ys : List Term). take start xs ++ ys) (split_at (end - start) (drop start xs));
  value = value;
  front = all_of (IsOut operation ds z) (take start xs) (λ i t at.
      let here = take_at xs start i t at in
      let below = here.1 in
      record { of = all_at (IsTermOf (length ds)) xs i t are here.0; beaten = told.before i t (omega (arith, below, first)) here.0 });
  back = all_of (IsOut operation ds z) (drop (end - start) (drop start xs)) (λ i t at.
      let here = drop_at xs start (end - start + i) (end + i) t (omega (arith, ordered)) (drop_at (drop start xs) (end - start) i (end - start + i) t refl at) in
      record { of = all_at (IsTermOf (length ds)) xs (end + i) t are here; beaten = told.behind (end + i) t (omega (arith, last)) here });
}

out_lasts : (operation : Operation) (ds es : List (List (ℤ × ℤ))) (z t : Term) → IsNarrower ds es → IsOut operation ds z t → IsOut operation es z t
out_lasts operation ds es z t narrower out = record { of = subst (λ (n : ℕ). IsTermOf n t) (sym narrower.size) out.of; beaten = beaten_lasts operation z t ds es narrower out.beaten }

all_still : (P Q : Term → Type 0) (xs : List Term) → ((t : Term) → P t → Q t) → AllByRecursion P xs → AllByRecursion Q xs
all_still P Q [] step all = tt
all_still P Q (x ∷ xs) step all = (step x all.0, all_still P Q xs step all.1)

part_lasts : (operation : Operation) (ds es : List (List (ℤ × ℤ))) (z : Term) (xs mid : List Term) → IsNarrower ds es → IsPart operation ds z xs mid → IsPart operation es z xs mid
part_lasts operation ds es z xs mid narrower part = record {
  ahead = part.ahead;
  behind = part.behind;
  whole = part.whole;
  value = subst (λ (n : ℕ). IsTermOf n z) (sym narrower.size) part.value;
  front = all_still (IsOut operation ds z) (IsOut operation es z) part.ahead (λ t. out_lasts operation ds es z t narrower) part.front;
  back = all_still (IsOut operation ds z) (IsOut operation es z) part.behind (λ t. out_lasts operation ds es z t narrower) part.back;
}

-- ---- what holds of the part, and of the whole

abbrev IsOutside : (Term → Type 0) → Operation → List (List (ℤ × ℤ)) → Term → Type 0
IsOutside P operation ds z = (t : Term) → IsOut operation ds z t → P t

whole_all : (P : Term → Type 0) (operation : Operation) (ds : List (List (ℤ × ℤ))) (z : Term) (xs mid : List Term) → IsPart operation ds z xs mid → IsOutside P operation ds z
    → AllByRecursion P mid → AllByRecursion P xs
whole_all P operation ds z xs mid part out all =
    subst (AllByRecursion P) (sym part.whole)
    (all_both P part.ahead (mid ++ part.behind) (all_still (IsOut operation ds z) P part.ahead out part.front)
    (all_both P mid part.behind all (all_still (IsOut operation ds z) P part.behind out part.back)))

part_all : (P : Term → Type 0) (operation : Operation) (ds : List (List (ℤ × ℤ))) (z : Term) (xs mid : List Term) → IsPart operation ds z xs mid → AllByRecursion P xs → AllByRecursion P mid
part_all P operation ds z xs mid part all = all_left P mid part.behind (all_right P part.ahead (mid ++ part.behind) (subst (AllByRecursion P) part.whole all))

whole_some : (P : Term → Type 0) (operation : Operation) (ds : List (List (ℤ × ℤ))) (z : Term) (xs mid : List Term) → IsPart operation ds z xs mid → SomeByRecursion P mid → SomeByRecursion P xs
whole_some P operation ds z xs mid part some =
    subst (SomeByRecursion P) (sym part.whole) ((some_append P part.ahead (mid ++ part.behind)).0 (inr ((some_append P mid part.behind).0 (inl some))))

none_out : (P : Term → Type 0) (operation : Operation) (ds : List (List (ℤ × ℤ))) (z : Term) (xs : List Term) → AllByRecursion (IsOut operation ds z) xs → IsOutside (λ (t : Term). P t → ⊥) operation ds z
    → SomeByRecursion P xs → ⊥
none_out P operation ds z [] all out some = some
none_out P operation ds z (x ∷ xs) all out (inl here) = out x all.0 here
none_out P operation ds z (x ∷ xs) all out (inr there) = none_out P operation ds z xs all.1 out there

part_some : (P : Term → Type 0) (operation : Operation) (ds : List (List (ℤ × ℤ))) (z : Term) (xs mid : List Term) → IsPart operation ds z xs mid → IsOutside (λ (t : Term). P t → ⊥) operation ds z
    → SomeByRecursion P xs → SomeByRecursion P mid
part_some P operation ds z xs mid part out some = elim ((some_append P part.ahead (mid ++ part.behind)).1 (subst (SomeByRecursion P) part.whole some)) [
  | inl first ↦ absurd (none_out P operation ds z part.ahead part.front out first)
  | inr rest ↦ elim ((some_append P mid part.behind).1 rest) [ inl here ↦ here | inr last ↦ absurd (none_out P operation ds z part.behind part.back out last) ]
]

-- ---- the truth

max_out : (ds : List (List (ℤ × ℤ))) (z : Term) (a : List ℤ) → IsTermOf (length ds) z → Within ds a → IsOutside (λ (t : Term). term_value a t <ℤ term_value a z) Max ds z
max_out ds z a value within t out = out.beaten (term_value a z) (term_value a t) (term_within ds a z value within) (term_within ds a t out.of within)

min_out : (ds : List (List (ℤ × ℤ))) (z : Term) (a : List ℤ) → IsTermOf (length ds) z → Within ds a → IsOutside (λ (t : Term). term_value a z <ℤ term_value a t) Min ds z
min_out ds z a value within t out = out.beaten (term_value a z) (term_value a t) (term_within ds a z value within) (term_within ds a t out.of within)

below_most : (x y : ℤ) → x <ℤ y → x ≤ℤ y
below_most x y below = omega (arith, ints, below)

below_other : (x y : ℤ) → x <ℤ y → x ≡ y → ⊥
below_other x y below same = omega (arith, ints, below, same)

above_other : (x y : ℤ) → x <ℤ y → y ≡ x → ⊥
above_other x y below same = omega (arith, ints, below, same)

part_truth : (operation : Operation) (ds : List (List (ℤ × ℤ))) (z : Term) (xs mid : List Term) (a : List ℤ) → IsExtreme operation → IsPart operation ds z xs mid → Within ds a
    → EquationTruth (equation operation mid z) a ↔ EquationTruth (equation operation xs z) a
part_truth Max ds z xs mid a extreme part within =
    let v = term_value a in
    let m = term_value a z in
    let out = max_out ds z a part.value within in (
      (λ h. (
        (some_map (λ (x : ℤ). x ≡ m) v xs).0 (whole_some (λ (t : Term). v t ≡ m) Max ds z xs mid part ((some_map (λ (x : ℤ). x ≡ m) v mid).1 h.0)),
        all_map (λ (x : ℤ). x ≤ℤ m) v xs (whole_all (λ (t : Term). v t ≤ℤ m) Max ds z xs mid part (λ t is. below_most (v t) m (out t is)) (all_unmap (λ (x : ℤ). x ≤ℤ m) v mid h.1)),
      )),
      (λ h. (
        (some_map (λ (x : ℤ). x ≡ m) v mid).0 (part_some (λ (t : Term). v t ≡ m) Max ds z xs mid part (λ t is. below_other (v t) m (out t is)) ((some_map (λ (x : ℤ). x ≡ m) v xs).1 h.0)),
        all_map (λ (x : ℤ). x ≤ℤ m) v mid (part_all (λ (t : Term). v t ≤ℤ m) Max ds z xs mid part (all_unmap (λ (x : ℤ). x ≤ℤ m) v xs h.1)),
      )),
    )
part_truth Min ds z xs mid a extreme part within =
    let v = term_value a in
    let m = term_value a z in
    let out = min_out ds z a part.value within in (
      (λ h. (
        (some_map (λ (x : ℤ). x ≡ m) v xs).0 (whole_some (λ (t : Term). v t ≡ m) Min ds z xs mid part ((some_map (λ (x : ℤ). x ≡ m) v mid).1 h.0)),
        all_map (λ (x : ℤ). m ≤ℤ x) v xs (whole_all (λ (t : Term). m ≤ℤ v t) Min ds z xs mid part (λ t is. below_most m (v t) (out t is)) (all_unmap (λ (x : ℤ). m ≤ℤ x) v mid h.1)),
      )),
      (λ h. (
        (some_map (λ (x : ℤ). x ≡ m) v mid).0 (part_some (λ (t : Term). v t ≡ m) Min ds z xs mid part (λ t is. above_other m (v t) (out t is)) ((some_map (λ (x : ℤ). x ≡ m) v xs).1 h.0)),
        all_map (λ (x : ℤ). m ≤ℤ x) v mid (part_all (λ (t : Term). m ≤ℤ v t) Min ds z xs mid part (all_unmap (λ (x : ℤ). m ≤ℤ x) v xs h.1)),
      )),
    )
part_truth operation ds z xs mid a extreme part within = absurd extreme

-- ---- the line

-- the ends of a term are left of it, in order
record HasEnds (ds : List (List (ℤ × ℤ))) (t : Term) : Type 0 where
  low : IsInSet (term_set ds t) (low_of ds t)
  high : IsInSet (term_set ds t) (high_of ds t)
  ordered : low_of ds t ≤ℤ high_of ds t

ends_of : (ds : List (List (ℤ × ℤ))) (t : Term) → IsTermOf (length ds) t → AreDomains ds → HasEnds ds t
ends_of ds t is domains =
    let ranges = term_ranges ds t is domains in
    let low = least_member (term_set ds t) ranges.some ranges.ranges in
    let high = greatest_member (term_set ds t) ranges.some ranges.ranges in
    record { low = low.0; high = high.0; ordered = low.1 (high_of ds t) high.0 }

-- where a term is beaten, its ends are
record IsUnder (ds : List (List (ℤ × ℤ))) (z t : Term) : Type 0 where
  low : low_of ds t ≤ℤ low_of ds z
  high : high_of ds t ≤ℤ high_of ds z

max_under : (ds : List (List (ℤ × ℤ))) (z : Term) → IsTermOf (length ds) z → AreDomains ds → IsOutside (IsUnder ds z) Max ds z
max_under ds z value domains t out =
    let of_t = ends_of ds t out.of domains in
    let of_z = ends_of ds z value domains in
    let less = out.beaten (low_of ds z) (high_of ds t) of_z.low of_t.high in
    let here = of_t.ordered in
    let there = of_z.ordered in
    record { low = omega (arith, ints, less, here); high = omega (arith, ints, less, there) }

min_over : (ds : List (List (ℤ × ℤ))) (z : Term) → IsTermOf (length ds) z → AreDomains ds → IsOutside (λ (t : Term). IsUnder ds t z) Min ds z
min_over ds z value domains t out =
    let of_t = ends_of ds t out.of domains in
    let of_z = ends_of ds z value domains in
    let less = out.beaten (high_of ds z) (low_of ds t) of_z.high of_t.low in
    let here = of_t.ordered in
    let there = of_z.ordered in
    record { low = omega (arith, ints, less, there); high = omega (arith, ints, less, here) }

-- a number is at least the greatest of some exactly where it is at least each of them, and at most where it is at most one of them
most_all : (n : ℤ) (xs : List ℤ) (m : ℤ) → AllByRecursion (λ (x : ℤ). x ≤ℤ m) xs → m ≤ℤ n → AllByRecursion (λ (x : ℤ). x ≤ℤ n) xs
most_all n [] m all least = tt
most_all n (x ∷ xs) m all least = let here = all.0 in (omega (arith, ints, here, least), most_all n xs m all.1 least)

least_all : (n : ℤ) (xs : List ℤ) (m : ℤ) → AllByRecursion (λ (x : ℤ). m ≤ℤ x) xs → n ≤ℤ m → AllByRecursion (λ (x : ℤ). n ≤ℤ x) xs
least_all n [] m all most = tt
least_all n (x ∷ xs) m all most = let here = all.0 in (omega (arith, ints, here, most), least_all n xs m all.1 most)

some_over : (n m : ℤ) (xs : List ℤ) → SomeByRecursion (λ (x : ℤ). x ≡ m) xs → n ≤ℤ m → SomeByRecursion (λ (x : ℤ). n ≤ℤ x) xs
some_over n m [] some less = some
some_over n m (x ∷ xs) (inl is) less = inl (omega (arith, ints, is, less))
some_over n m (x ∷ xs) (inr there) less = inr (some_over n m xs there less)

some_under : (n m : ℤ) (xs : List ℤ) → SomeByRecursion (λ (x : ℤ). x ≡ m) xs → m ≤ℤ n → SomeByRecursion (λ (x : ℤ). x ≤ℤ n) xs
some_under n m [] some less = some
some_under n m (x ∷ xs) (inl is) less = inl (omega (arith, ints, is, less))
some_under n m (x ∷ xs) (inr there) less = inr (some_under n m xs there less)

all_to : (n m : ℤ) (xs : List ℤ) → SomeByRecursion (λ (x : ℤ). x ≡ m) xs → AllByRecursion (λ (x : ℤ). x ≤ℤ n) xs → m ≤ℤ n
all_to n m [] some all = absurd some
all_to n m (x ∷ xs) (inl is) all = let here = all.0 in omega (arith, ints, is, here)
all_to n m (x ∷ xs) (inr there) all = all_to n m xs there all.1

all_from : (n m : ℤ) (xs : List ℤ) → SomeByRecursion (λ (x : ℤ). x ≡ m) xs → AllByRecursion (λ (x : ℤ). n ≤ℤ x) xs → n ≤ℤ m
all_from n m [] some all = absurd some
all_from n m (x ∷ xs) (inl is) all = let here = all.0 in omega (arith, ints, is, here)
all_from n m (x ∷ xs) (inr there) all = all_from n m xs there all.1

some_to : (n m : ℤ) (xs : List ℤ) → SomeByRecursion (λ (x : ℤ). n ≤ℤ x) xs → AllByRecursion (λ (x : ℤ). x ≤ℤ m) xs → n ≤ℤ m
some_to n m [] some all = absurd some
some_to n m (x ∷ xs) (inl less) all = let here = all.0 in omega (arith, ints, less, here)
some_to n m (x ∷ xs) (inr there) all = some_to n m xs there all.1

some_from : (n m : ℤ) (xs : List ℤ) → SomeByRecursion (λ (x : ℤ). x ≤ℤ n) xs → AllByRecursion (λ (x : ℤ). m ≤ℤ x) xs → m ≤ℤ n
some_from n m [] some all = absurd some
some_from n m (x ∷ xs) (inl less) all = let here = all.0 in omega (arith, ints, less, here)
some_from n m (x ∷ xs) (inr there) all = some_from n m xs there all.1

-- the bounds of the greatest, by each of the terms: no least end is above its, and a greatest one reaches its
record IsMost (ds : List (List (ℤ × ℤ))) (z : Term) (xs : List Term) : Type 0 where
  lows : AllByRecursion (λ (t : Term). low_of ds t ≤ℤ low_of ds z) xs
  highs : SomeByRecursion (λ (t : Term). high_of ds z ≤ℤ high_of ds t) xs

record IsLeast (ds : List (List (ℤ × ℤ))) (z : Term) (xs : List Term) : Type 0 where
  lows : SomeByRecursion (λ (t : Term). low_of ds t ≤ℤ low_of ds z) xs
  highs : AllByRecursion (λ (t : Term). high_of ds z ≤ℤ high_of ds t) xs

most_of : (ds : List (List (ℤ × ℤ))) (z : Term) (xs : List Term) → low_of ds z ≤ℤ high_of ds z → IsBounded ds (result_bounds Max xs z ds) → IsMost ds z xs
most_of ds z [] ordered bounded = let low = bounded.0 in let high = bounded.1 in absurd (omega (arith, ints, ordered, low, high))
most_of ds z (x ∷ xs) ordered bounded =
    let lows = greatest_is (low_of ds x) (map (low_of ds) xs) in
    let highs = greatest_is (high_of ds x) (map (high_of ds) xs) in
    record {
      lows = all_unmap (λ (n : ℤ). n ≤ℤ low_of ds z) (low_of ds) (x ∷ xs) (most_all (low_of ds z) (map (low_of ds) (x ∷ xs)) (fold int_max (low_of ds x) (map (low_of ds) xs)) lows.1 bounded.0);
      highs = (some_map (λ (n : ℤ). high_of ds z ≤ℤ n) (high_of ds) (x ∷ xs)).1 (some_over (high_of ds z) (fold int_max (high_of ds x) (map (high_of ds) xs)) (map (high_of ds) (x ∷ xs)) highs.0 bounded.1);
    }

of_most : (ds : List (List (ℤ × ℤ))) (z : Term) (xs : List Term) → IsMost ds z xs → IsBounded ds (result_bounds Max xs z ds)
of_most ds z [] most = absurd most.highs
of_most ds z (x ∷ xs) most =
    let lows = greatest_is (low_of ds x) (map (low_of ds) xs) in
    let highs = greatest_is (high_of ds x) (map (high_of ds) xs) in (
      all_to (low_of ds z) (fold int_max (low_of ds x) (map (low_of ds) xs)) (map (low_of ds) (x ∷ xs)) lows.0 (all_map (λ (n : ℤ). n ≤ℤ low_of ds z) (low_of ds) (x ∷ xs) most.lows),
      some_to (high_of ds z) (fold int_max (high_of ds x) (map (high_of ds) xs)) (map (high_of ds) (x ∷ xs)) ((some_map (λ (n : ℤ). high_of ds z ≤ℤ n) (high_of ds) (x ∷ xs)).0 most.highs) highs.1,
    )

least_of_all : (ds : List (List (ℤ × ℤ))) (z : Term) (xs : List Term) → low_of ds z ≤ℤ high_of ds z → IsBounded ds (result_bounds Min xs z ds) → IsLeast ds z xs
least_of_all ds z [] ordered bounded = let low = bounded.0 in let high = bounded.1 in absurd (omega (arith, ints, ordered, low, high))
least_of_all ds z (x ∷ xs) ordered bounded =
    let lows = least_is (low_of ds x) (map (low_of ds) xs) in
    let highs = least_is (high_of ds x) (map (high_of ds) xs) in
    record {
      lows = (some_map (λ (n : ℤ). n ≤ℤ low_of ds z) (low_of ds) (x ∷ xs)).1 (some_under (low_of ds z) (fold int_min (low_of ds x) (map (low_of ds) xs)) (map (low_of ds) (x ∷ xs)) lows.0 bounded.0);
      highs = all_unmap (λ (n : ℤ). high_of ds z ≤ℤ n) (high_of ds) (x ∷ xs) (least_all (high_of ds z) (map (high_of ds) (x ∷ xs)) (fold int_min (high_of ds x) (map (high_of ds) xs)) highs.1 bounded.1);
    }

of_least : (ds : List (List (ℤ × ℤ))) (z : Term) (xs : List Term) → IsLeast ds z xs → IsBounded ds (result_bounds Min xs z ds)
of_least ds z [] least = absurd least.lows
of_least ds z (x ∷ xs) least =
    let lows = least_is (low_of ds x) (map (low_of ds) xs) in
    let highs = least_is (high_of ds x) (map (high_of ds) xs) in (
      some_from (low_of ds z) (fold int_min (low_of ds x) (map (low_of ds) xs)) (map (low_of ds) (x ∷ xs)) ((some_map (λ (n : ℤ). n ≤ℤ low_of ds z) (low_of ds) (x ∷ xs)).0 least.lows) lows.1,
      all_from (high_of ds z) (fold int_min (high_of ds x) (map (high_of ds) xs)) (map (high_of ds) (x ∷ xs)) highs.0 (all_map (λ (n : ℤ). high_of ds z ≤ℤ n) (high_of ds) (x ∷ xs) least.highs),
    )

part_line : (operation : Operation) (ds : List (List (ℤ × ℤ))) (z : Term) (xs mid : List Term) → IsExtreme operation → AreDomains ds → IsPart operation ds z xs mid
    → IsEquationLine (equation operation mid z) ds → IsEquationLine (equation operation xs z) ds
part_line Max ds z xs mid extreme domains part line =
    let of_z = ends_of ds z part.value domains in
    let most = most_of ds z mid of_z.ordered line.bounded.0 in
    let under = max_under ds z part.value domains in
    let each : Term → Type 0 = λ (t : Term). IsBounded ds (between t (low_of ds t) (high_of ds z)) in
    record {
      bounded = (
        of_most ds z xs (record {
          lows = whole_all (λ (t : Term). low_of ds t ≤ℤ low_of ds z) Max ds z xs mid part (λ t out. (under t out).low) most.lows;
          highs = whole_some (λ (t : Term). high_of ds z ≤ℤ high_of ds t) Max ds z xs mid part most.highs;
        }),
        all_map (IsBounded ds) (λ (t : Term). between t (low_of ds t) (high_of ds z)) xs
            (whole_all each Max ds z xs mid part (λ t out. (omega (arith, ints), (under t out).high)) (all_unmap (IsBounded ds) (λ (t : Term). between t (low_of ds t) (high_of ds z)) mid line.bounded.1)),
      );
      divides = tt;
    }
part_line Min ds z xs mid extreme domains part line =
    let of_z = ends_of ds z part.value domains in
    let least = least_of_all ds z mid of_z.ordered line.bounded.0 in
    let over = min_over ds z part.value domains in
    let each : Term → Type 0 = λ (t : Term). IsBounded ds (between t (low_of ds z) (high_of ds t)) in
    record {
      bounded = (
        of_least ds z xs (record {
          lows = whole_some (λ (t : Term). low_of ds t ≤ℤ low_of ds z) Min ds z xs mid part least.lows;
          highs = whole_all (λ (t : Term). high_of ds z ≤ℤ high_of ds t) Min ds z xs mid part (λ t out. (over t out).high) least.highs;
        }),
        all_map (IsBounded ds) (λ (t : Term). between t (low_of ds z) (high_of ds t)) xs
            (whole_all each Min ds z xs mid part (λ t out. ((over t out).low, omega (arith, ints))) (all_unmap (IsBounded ds) (λ (t : Term). between t (low_of ds z) (high_of ds t)) mid line.bounded.1)),
      );
      divides = tt;
    }
part_line operation ds z xs mid extreme domains part line = absurd extreme

-- ---- what a run of the part says of the whole

pub part_correct : (operation : Operation) (ds es : List (List (ℤ × ℤ))) (z : Term) (xs mid : List Term) → IsExtreme operation → IsPart operation ds z xs mid
    → IsCorrectOf (EquationTruth (equation operation mid z)) ds es → IsCorrectOf (EquationTruth (equation operation xs z)) ds es
part_correct operation ds es z xs mid extreme part correct = λ a truth within. correct a ((part_truth operation ds z xs mid a extreme part within).1 truth) within

pub part_answer : (answer : Answer) (operation : Operation) (ds es : List (List (ℤ × ℤ))) (z : Term) (xs mid : List Term) → IsExtreme operation → AreDomains es → IsNarrower ds es → IsPart operation ds z xs mid
    → IsAnswerOf answer (EquationTruth (equation operation mid z)) (IsEquationLine (equation operation mid z)) ds es
    → IsAnswerOf answer (EquationTruth (equation operation xs z)) (IsEquationLine (equation operation xs z)) ds es
part_answer Fix operation ds es z xs mid extreme domains narrower part h = part_line operation es z xs mid extreme domains (part_lasts operation ds es z xs mid narrower part) h
part_answer NoFix operation ds es z xs mid extreme domains narrower part h = h
part_answer Subsumed operation ds es z xs mid extreme domains narrower part h = (
  (λ a within. (part_truth operation ds z xs mid a extreme part (within_before ds es a narrower within)).0 (h.0 a within)),
  (λ fs filled less. part_line operation fs z xs mid extreme filled (part_lasts operation ds fs z xs mid (narrower_twice ds es fs narrower less) part) (h.1 fs filled less)),
)
part_answer Failed operation ds es z xs mid extreme domains narrower part h = λ a within truth. h a within ((part_truth operation ds z xs mid a extreme part within).1 truth)

-- ---- one more is passed

pub one_before : (P : Term → Type 0) (xs : List Term) (n : ℕ) (d : Term) → n < length xs → P (get_or xs n d) → AreDoneBelow (λ i t. P t) xs n → AreDoneBelow (λ i t. P t) xs (n + 1)
one_before P xs n d inside here before = λ i t below at. elim (cases_eq i n) [
  | inl e ↦ subst P (some_is (get_or xs n d) t (sym (got xs n d inside) ∙ ap (slice_get xs) (sym e) ∙ at)) here
  | inr ne ↦ before i t (omega (arith, below, ne)) at
]

pub one_behind : (P : Term → Type 0) (xs : List Term) (n place : ℕ) (d : Term) → place + n + 1 ≡ length xs → P (get_or xs place d) → AreDoneBehind (λ i t. P t) xs n → AreDoneBehind (λ i t. P t) xs (n + 1)
one_behind P xs n place d is here before = λ i t behind at. elim (cases_eq i place) [
  | inl e ↦ subst P (some_is (get_or xs place d) t (sym (got xs place d (omega (arith, is))) ∙ ap (slice_get xs) (sym e) ∙ at)) here
  | inr ne ↦ before i t (omega (arith, is, behind, ne)) at
]

pub part_terms : (P : Term → Type 0) (xs : List Term) (start end : ℕ) → AllByRecursion P xs → AllByRecursion P (take (end - start) (drop start xs))
part_terms P xs start end all =
    all_left P (take (end - start) (drop start xs)) (drop (end - start) (drop start xs))
    (subst (AllByRecursion P) (split_at (end - start) (drop start xs)) (all_right P (take start xs) (drop start xs) (subst (AllByRecursion P) (split_at start xs) all)))

pub ends_last : (operation : Operation) (xs : List Term) (z : Term) (front back : ℕ) (ds es : List (List (ℤ × ℤ))) → IsNarrower ds es → AreEndsBeaten operation xs z front back ds
    → AreEndsBeaten operation xs z front back es
ends_last operation xs z front back ds es narrower told =
    done_lasts (λ i t. IsBeaten operation ds z t) (λ i t. IsBeaten operation es z t) xs front back (λ i t. beaten_lasts operation z t ds es narrower) told
