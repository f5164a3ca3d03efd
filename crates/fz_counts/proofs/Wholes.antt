-- What the sum of the counts of a cover says of each count, and of the places that may have a value and needn't.
use Rattle.std.proofs.Common.{◌≡◌, ◌⊎◌, inl, inr, ℕ, ◌≤◌, List, [], ◌∷◌, arith, length}
use Rattle.std.specs.Prelude.{ℤ, pos, ◌-ℤ◌, ◌<ℤ◌, sum_by}
use Rattle.std.specs.List.{AllByRecursion}
use Rattle.std.proofs.lemmas.Int.{ints}
use Rattle.fz_spec.specs.declared.term.Term.{Term}
use Rattle.fz_spec.specs.Constraints.{term_value}
use Rattle.fz_strength.specs.Domains.{AreDomains, Within, IsTermOf}
use Rattle.fz_prop.proofs.TermChanges.{term_within}
use Rattle.fz_counts.specs.declared.cover.Cover.{Cover}
use Rattle.fz_counts.specs.declared.ends.Slack.{Slack}
use Rattle.fz_counts.specs.declared.places.Choice.TheVariants.{Without, With}
use Rattle.fz_counts.specs.Counting.{AreCountsOf}
use Rattle.fz_counts.specs.Covers.{AreSoMany, AllNear, AllSide, IsCoverOf, IsInside, IsWindowOf, MayCount, lowest, highest, sum_of}
use Rattle.fz_counts.proofs.Totals.{weight, sure_weigh, may_weigh, counts_weigh, sums_between, all_near}

-- ---- weights of terms

inside_weigh : (c : Cover) (values : List ℤ) (ds : List (List (ℤ × ℤ))) (a : List ℤ) (xs : List Term) → IsWindowOf c.window values → AllByRecursion (IsTermOf (length ds)) xs → Within ds a
    → AllByRecursion (λ (t : Term). IsInside c ds t → weight a values t ≡ 1) xs
inside_weigh c values ds a [] h terms within = tt
inside_weigh c values ds a (x ∷ xs) h terms within = (
  (λ inside. (h.numbers (term_value a x)).0 (inside (term_value a x) (term_within ds a x terms.0 within))),
  inside_weigh c values ds a xs h terms.1 within,
)

outside_weighs : (c : Cover) (values : List ℤ) (ds : List (List (ℤ × ℤ))) (a : List ℤ) (x : Term) → IsWindowOf c.window values → IsTermOf (length ds) x → Within ds a → (MayCount c ds x → ⊥) → weight a values x ≡ 0
outside_weighs c values ds a x h is within never =
    let few = h.once (term_value a x) in
    let not : weight a values x ≡ 1 → ⊥ = λ one. never (λ outside. outside (term_value a x) (term_within ds a x is within) ((h.numbers (term_value a x)).1 one)) in
    omega (arith, few, not)

all_weigh : (c : Cover) (values : List ℤ) (ds : List (List (ℤ × ℤ))) (a : List ℤ) (xs : List Term) → IsWindowOf c.window values → AllByRecursion (IsTermOf (length ds)) xs → Within ds a
    → AllByRecursion (λ (t : Term). (weight a values t ≤ 1) × ((MayCount c ds t → ⊥) → weight a values t ≡ 0)) xs
all_weigh c values ds a [] h terms within = tt
all_weigh c values ds a (x ∷ xs) h terms within = ((h.once (term_value a x), outside_weighs c values ds a x h terms.0 within), all_weigh c values ds a xs h terms.1 within)

-- ---- what all counts say

pub record IsCovered (c : Cover) (values : List ℤ) (xs counts : List Term) (ds : List (List (ℤ × ℤ))) (f m : ℕ) : Type 0 where
  pub terms : AllByRecursion (IsTermOf (length ds)) xs
  pub numbers : AllByRecursion (IsTermOf (length ds)) counts
  pub domains : AreDomains ds
  pub cover : IsCoverOf c values
  pub fewest : AreSoMany (IsInside c ds) xs f
  pub most : AreSoMany (MayCount c ds) xs m

-- an assignment's number of places with a value of the cover
pub record IsTotal (values : List ℤ) (xs counts : List Term) (ds : List (List (ℤ × ℤ))) (f m : ℕ) (a : List ℤ) : Type 0 where
  pub is : sum_of (term_value a) counts ≡ pos (sum_by (weight a values) xs)
  pub few : f ≤ sum_by (weight a values) xs
  pub many : sum_by (weight a values) xs ≤ m

total_of : (c : Cover) (values : List ℤ) (xs counts : List Term) (ds : List (List (ℤ × ℤ))) (f m : ℕ) (a : List ℤ) → IsCovered c values xs counts ds f m → Within ds a → AreCountsOf xs values counts a
    → IsTotal values xs counts ds f m a
total_of c values xs counts ds f m a h within are = record {
  is = counts_weigh a xs values counts are;
  few = (sure_weigh (IsInside c ds) (weight a values) xs f h.fewest (inside_weigh c values ds a xs h.cover.holds h.terms within)).0;
  many = (may_weigh (MayCount c ds) (weight a values) xs m h.most (all_weigh c values ds a xs h.cover.holds h.terms within)).0;
}

pub none_covered : (c : Cover) (values : List ℤ) (xs counts : List Term) (ds : List (List (ℤ × ℤ))) (f m : ℕ) → IsCovered c values xs counts ds f m → (pos m <ℤ lowest ds counts) ⊎ (highest ds counts <ℤ pos f)
    → (a : List ℤ) → Within ds a → AreCountsOf xs values counts a → ⊥
none_covered c values xs counts ds f m h out a within are =
    let total = total_of c values xs counts ds f m a h within are in
    let sums = sums_between ds a counts h.numbers h.domains within in
    let is = total.is in
    let few = total.few in
    let many = total.many in
    let low = sums.0 in
    let high = sums.1 in
    elim out [ inl below ↦ omega (arith, ints, below, low, is, many) | inr above ↦ omega (arith, ints, above, high, is, few) ]

pub near_covered : (c : Cover) (values : List ℤ) (xs counts : List Term) (ds : List (List (ℤ × ℤ))) (f m : ℕ) (slack : Slack) → IsCovered c values xs counts ds f m → slack.above ≡ (pos m -ℤ lowest ds counts)
    → slack.below ≡ (highest ds counts -ℤ pos f) → (a : List ℤ) → Within ds a → AreCountsOf xs values counts a → AllNear slack counts ds a
near_covered c values xs counts ds f m slack h is_above is_below a within are =
    let total = total_of c values xs counts ds f m a h within are in
    let is = total.is in
    let few = total.few in
    let many = total.many in
    all_near ds a counts slack h.numbers h.domains within (omega (arith, ints, is_above, is, many)) (omega (arith, ints, is_below, is, few))

-- no more than those that have to: the others have none
without_by : (c : Cover) (values : List ℤ) (ds : List (List (ℤ × ℤ))) (a : List ℤ) (xs : List Term) → IsWindowOf c.window values → AllByRecursion (λ (t : Term). (IsInside c ds t → ⊥) → weight a values t ≡ 0) xs
    → AllSide Without c xs ds a
without_by c values ds a [] h all = tt
without_by c values ds a (x ∷ xs) h all = (
  (λ mixed of. (let none = all.0 mixed.0 in let one = (h.numbers (term_value a x)).0 of in absurd (omega (arith, none, one)))),
  without_by c values ds a xs h all.1,
)

with_by : (c : Cover) (values : List ℤ) (ds : List (List (ℤ × ℤ))) (a : List ℤ) (xs : List Term) → IsWindowOf c.window values → AllByRecursion (λ (t : Term). MayCount c ds t → weight a values t ≡ 1) xs → AllSide With c xs ds a
with_by c values ds a [] h all = tt
with_by c values ds a (x ∷ xs) h all = ((λ mixed. (h.numbers (term_value a x)).1 (all.0 mixed.1)), with_by c values ds a xs h all.1)

pub without_covered : (c : Cover) (values : List ℤ) (xs counts : List Term) (ds : List (List (ℤ × ℤ))) (f m : ℕ) (below : ℤ) → IsCovered c values xs counts ds f m → below ≡ (highest ds counts -ℤ pos f) → below ≡ pos 0
    → (a : List ℤ) → Within ds a → AreCountsOf xs values counts a → AllSide Without c xs ds a
without_covered c values xs counts ds f m below h is_below none a within are =
    let is = counts_weigh a xs values counts are in
    let high = (sums_between ds a counts h.numbers h.domains within).1 in
    without_by c values ds a xs h.cover.holds
    ((sure_weigh (IsInside c ds) (weight a values) xs f h.fewest (inside_weigh c values ds a xs h.cover.holds h.terms within)).1 (omega (arith, ints, is, high, is_below, none)))

pub with_covered : (c : Cover) (values : List ℤ) (xs counts : List Term) (ds : List (List (ℤ × ℤ))) (f m : ℕ) (above : ℤ) → IsCovered c values xs counts ds f m → above ≡ (pos m -ℤ lowest ds counts) → above ≡ pos 0
    → (a : List ℤ) → Within ds a → AreCountsOf xs values counts a → AllSide With c xs ds a
with_covered c values xs counts ds f m above h is_above none a within are =
    let is = counts_weigh a xs values counts are in
    let low = (sums_between ds a counts h.numbers h.domains within).0 in
    with_by c values ds a xs h.cover.holds
    ((may_weigh (MayCount c ds) (weight a values) xs m h.most (all_weigh c values ds a xs h.cover.holds h.terms within)).1 (omega (arith, ints, is, low, is_above, none)))
