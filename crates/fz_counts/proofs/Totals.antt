-- The sum of the counts of a cover is the number of places that have a value of it.
use Rattle.std.proofs.Common.{◌≡◌, inl, inr, ℕ, zero, suc, ◌+◌, ◌<◌, ◌≤◌, List, [], ◌∷◌, ◌∙◌, refl, sym, ap, subst, arith, length, get_or, take, add-one}
use Rattle.std.specs.Prelude.{ℤ, pos, ◌+ℤ◌, ◌-ℤ◌, ◌*◌, neg_ℤ, ◌≤ℤ◌, count_by, sum_by}
use Rattle.std.specs.Ordering.{int_eq}
use Rattle.std.specs.List.{AllByRecursion}
use Rattle.std.proofs.lemmas.Int.{ints}
use Rattle.std.proofs.lemmas.List.Sums.{sum_by-cons}
use Rattle.fz_dom.specs.Shape.{least, greatest}
use Rattle.fz_dom.proofs.Ranges.{least_below, upper_bound}
use Rattle.fz_spec.specs.declared.term.Term.{Term}
use Rattle.fz_spec.specs.Constraints.{term_value, term_values}
use Rattle.fz_spec.specs.Truth.{count_of}
use Rattle.fz_strength.specs.Domains.{term_set, AreDomains, Within, IsTermOf}
use Rattle.fz_strength.proofs.Spreads.{count_more}
use Rattle.fz_prop.proofs.Filled.{term_ranges}
use Rattle.fz_prop.proofs.TermChanges.{term_within}
use Rattle.fz_counts.specs.Counting.{AreCountsOf}
use Rattle.fz_counts.specs.declared.ends.Slack.{Slack}
use Rattle.fz_counts.specs.Covers.{AreSoMany, AllNear, sum_of, lowest, highest}

-- ---- so many terms

suc_is : (k : ℕ) → suc k ≡ k + 1
suc_is k = omega arith

many_yes : (P : Term → Type 0) (xs : List Term) (k n : ℕ) (d : Term) → k < length xs → P (get_or xs k d) → AreSoMany P (take k xs) n → AreSoMany P (take (suc k) xs) (n + 1)
many_yes P [] k n d within here h = absurd (omega (arith, within))
many_yes P (x ∷ xs) zero n d within here h = inl (here, (n, refl, h))
many_yes P (x ∷ xs) (suc k) n d within here h = elim h [
  | inl first ↦
      let m = first.1.0 in
      let is = first.1.1 in
      inl (first.0, (m + 1, omega (arith, is), many_yes P xs k m d (omega (arith, within)) here first.1.2))
  | inr not ↦ inr (not.0, many_yes P xs k n d (omega (arith, within)) here not.1)
]

many_no : (P : Term → Type 0) (xs : List Term) (k n : ℕ) (d : Term) → k < length xs → (P (get_or xs k d) → ⊥) → AreSoMany P (take k xs) n → AreSoMany P (take (suc k) xs) n
many_no P [] k n d within here h = absurd (omega (arith, within))
many_no P (x ∷ xs) zero n d within here h = inr (here, h)
many_no P (x ∷ xs) (suc k) n d within here h = elim h [
  | inl first ↦ inl (first.0, (first.1.0, first.1.1, many_no P xs k first.1.0 d (omega (arith, within)) here first.1.2))
  | inr not ↦ inr (not.0, many_no P xs k n d (omega (arith, within)) here not.1)
]

pub next_yes : (P : Term → Type 0) (xs : List Term) (k n : ℕ) (d : Term) → k < length xs → P (get_or xs k d) → AreSoMany P (take k xs) n → AreSoMany P (take (k + 1) xs) (n + 1)
next_yes P xs k n d within here h = subst (λ (j : ℕ). AreSoMany P (take j xs) (n + 1)) (suc_is k) (many_yes P xs k n d within here h)

pub next_no : (P : Term → Type 0) (xs : List Term) (k n : ℕ) (d : Term) → k < length xs → (P (get_or xs k d) → ⊥) → AreSoMany P (take k xs) n → AreSoMany P (take (k + 1) xs) n
next_no P xs k n d within here h = subst (λ (j : ℕ). AreSoMany P (take j xs) n) (suc_is k) (many_no P xs k n d within here h)

-- ---- weights of terms, each 0 or 1: at least as many as are sure to have 1, and at most as many as may

pub sure_weigh : (P : Term → Type 0) (g : Term → ℕ) (xs : List Term) (n : ℕ) → AreSoMany P xs n → AllByRecursion (λ (t : Term). P t → g t ≡ 1) xs
    → (n ≤ sum_by g xs) × (sum_by g xs ≤ n → AllByRecursion (λ (t : Term). (P t → ⊥) → g t ≡ 0) xs)
sure_weigh P g [] n many weigh = let is : n ≡ 0 = many in (omega (arith, is), λ few. tt)
sure_weigh P g (x ∷ xs) n many weigh =
    let sum = sum_by-cons g x xs in
    elim many [
      | inl first ↦
          let rest = sure_weigh P g xs first.1.0 first.1.2 weigh.1 in
          let one = weigh.0 first.0 in
          let is = first.1.1 in
          let more = rest.0 in
          (omega (arith, sum, one, is, more), λ few. ((λ out. absurd (out first.0)), rest.1 (omega (arith, sum, one, is, few))))
      | inr not ↦
          let rest = sure_weigh P g xs n not.1 weigh.1 in
          let more = rest.0 in
          (omega (arith, sum, more), λ few. ((λ out. omega (arith, sum, more, few)), rest.1 (omega (arith, sum, few))))
    ]

pub may_weigh : (P : Term → Type 0) (g : Term → ℕ) (xs : List Term) (n : ℕ) → AreSoMany P xs n → AllByRecursion (λ (t : Term). (g t ≤ 1) × ((P t → ⊥) → g t ≡ 0)) xs
    → (sum_by g xs ≤ n) × (n ≤ sum_by g xs → AllByRecursion (λ (t : Term). P t → g t ≡ 1) xs)
may_weigh P g [] n many weigh = let is : n ≡ 0 = many in let none : sum_by g [] ≡ 0 = refl in (omega (arith, is, none), λ few. tt)
may_weigh P g (x ∷ xs) n many weigh =
    let sum = sum_by-cons g x xs in
    elim many [
      | inl first ↦
          let rest = may_weigh P g xs first.1.0 first.1.2 weigh.1 in
          let one = weigh.0.0 in
          let is = first.1.1 in
          let less = rest.0 in
          (omega (arith, sum, one, is, less), λ few. ((λ p. omega (arith, sum, one, is, less, few)), rest.1 (omega (arith, sum, one, is, few))))
      | inr not ↦
          let rest = may_weigh P g xs n not.1 weigh.1 in
          let zero_is = weigh.0.1 not.0 in
          let less = rest.0 in
          (omega (arith, sum, zero_is, less), λ few. ((λ p. absurd (not.0 p)), rest.1 (omega (arith, sum, zero_is, few))))
    ]

-- ---- the sum of the counts

abbrev pub weight : List ℤ → List ℤ → Term → ℕ
weight a cover t = count_by (int_eq (term_value a t)) cover

none_weighs : (a : List ℤ) (xs : List Term) → sum_by (weight a []) xs ≡ 0
none_weighs a [] = refl
none_weighs a (x ∷ xs) =
    let sum = sum_by-cons (weight a []) x xs in
    let here : weight a [] x ≡ 0 = refl in
    let rest = none_weighs a xs in
    omega (arith, sum, here, rest)

one_weighs : (a : List ℤ) (value : ℤ) (cover : List ℤ) (xs : List Term) → sum_by (weight a (value ∷ cover)) xs ≡ count_of value (term_values a xs) + sum_by (weight a cover) xs
one_weighs a value cover [] = refl
one_weighs a value cover (x ∷ xs) =
    let sum = sum_by-cons (weight a (value ∷ cover)) x xs in
    let less = sum_by-cons (weight a cover) x xs in
    let here = count_more (int_eq (term_value a x)) value cover in
    let there = count_more (λ (y : ℤ). int_eq y value) (term_value a x) (term_values a xs) in
    let rest = one_weighs a value cover xs in
    omega (arith, sum, less, here, there, rest)

add_counts : (c s : ℤ) (n m : ℕ) → c ≡ pos n → s ≡ pos m → (c +ℤ s) ≡ pos (n + m)
add_counts c s n m is sum = omega (arith, ints, is, sum)

pub counts_weigh : (a : List ℤ) (xs : List Term) (cover : List ℤ) (counts : List Term) → AreCountsOf xs cover counts a → sum_of (term_value a) counts ≡ pos (sum_by (weight a cover) xs)
counts_weigh a xs [] [] are = ap pos (sym (none_weighs a xs))
counts_weigh a xs (value ∷ cover) (count ∷ counts) are =
    add_counts (term_value a count) (sum_of (term_value a) counts) (count_of value (term_values a xs)) (sum_by (weight a cover) xs) are.0 (counts_weigh a xs cover counts are.1) ∙ ap pos (sym (one_weighs a value cover xs))
counts_weigh a xs [] (count ∷ counts) are = absurd are
counts_weigh a xs (value ∷ cover) [] are = absurd are

-- ---- ends

sum_more : (f : Term → ℤ) (xs : List Term) (k : ℕ) (d : Term) → k < length xs → sum_of f (take (suc k) xs) ≡ (sum_of f (take k xs) +ℤ f (get_or xs k d))
sum_more f [] k d within = absurd (omega (arith, within))
sum_more f (x ∷ xs) zero d within = omega (arith, ints)
sum_more f (x ∷ xs) (suc k) d within = let rest = sum_more f xs k d (omega (arith, within)) in omega (arith, ints, rest)

between_ends : (ds : List (List (ℤ × ℤ))) (a : List ℤ) (t : Term) → IsTermOf (length ds) t → AreDomains ds → Within ds a → (least (term_set ds t) ≤ℤ term_value a t) × (term_value a t ≤ℤ greatest (term_set ds t))
between_ends ds a t is domains within =
    let d = term_set ds t in
    let has = term_ranges ds t is domains in
    let member = term_within ds a t is within in
    (least_below d (term_value a t) has.ranges member, upper_bound d (term_value a t) has.ranges member)

pub sums_between : (ds : List (List (ℤ × ℤ))) (a : List ℤ) (ts : List Term) → AllByRecursion (IsTermOf (length ds)) ts → AreDomains ds → Within ds a
    → (lowest ds ts ≤ℤ sum_of (term_value a) ts) × (sum_of (term_value a) ts ≤ℤ highest ds ts)
sums_between ds a [] terms domains within = (omega (arith, ints), omega (arith, ints))
sums_between ds a (t ∷ ts) terms domains within =
    let here = between_ends ds a t terms.0 domains within in
    let rest = sums_between ds a ts terms.1 domains within in
    let low = here.0 in
    let high = here.1 in
    let lows = rest.0 in
    let highs = rest.1 in
    (omega (arith, ints, low, lows), omega (arith, ints, high, highs))

-- each is as near to its ends as all together
pub all_near : (ds : List (List (ℤ × ℤ))) (a : List ℤ) (ts : List Term) (slack : Slack) → AllByRecursion (IsTermOf (length ds)) ts → AreDomains ds → Within ds a
    → (sum_of (term_value a) ts) ≤ℤ (lowest ds ts +ℤ slack.above) → (highest ds ts -ℤ slack.below) ≤ℤ (sum_of (term_value a) ts) → AllNear slack ts ds a
all_near ds a [] slack terms domains within few many = tt
all_near ds a (t ∷ ts) slack terms domains within few many =
    let here = between_ends ds a t terms.0 domains within in
    let rest = sums_between ds a ts terms.1 domains within in
    let low = here.0 in
    let high = here.1 in
    let lows = rest.0 in
    let highs = rest.1 in (
      (omega (arith, ints, highs, many), omega (arith, ints, lows, few)),
      all_near ds a ts slack terms.1 domains within (omega (arith, ints, low, few)) (omega (arith, ints, high, many)),
    )

-- a sum of so many numbers of 32 bits
abbrev pub IsSumOf : ℕ → ℤ → Type 0
IsSumOf k n = (neg_ℤ (pos (k * 2147483648)) ≤ℤ n) × (n ≤ℤ pos (k * 2147483648))

pub sum_next : (f : Term → ℤ) (xs : List Term) (k : ℕ) (d : Term) → k < length xs → sum_of f (take (k + 1) xs) ≡ (sum_of f (take k xs) +ℤ f (get_or xs k d))
sum_next f xs k d within = rw add-one (sum_more f xs k d within)
