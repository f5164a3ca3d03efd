-- Terms that are confined to an interval, of an assignment within the domains: Hall's theorem for intervals.
use Rattle.std.proofs.Common.{◌≡◌, ℕ, zero, suc, ◌≤◌, List, [], ◌∷◌, refl, sym, ap, subst, arith, length}
use Rattle.std.specs.Prelude.{ℤ, pos, ◌+ℤ◌, ◌-ℤ◌, ◌≤ℤ◌, ◌<ℤ◌, true, false, count_by, slice_get, Some}
use Rattle.std.specs.List.{AllByRecursion}
use Rattle.std.proofs.lemmas.Int.{ints}
use Rattle.fz_sets.proofs.Lists.{some_is}
use Rattle.fz_dom.specs.Shape.{least, greatest}
use Rattle.fz_dom.proofs.Ranges.{least_below, least_member, greatest_member, upper_bound}
use Rattle.fz_spec.specs.declared.term.Term.{Term}
use Rattle.fz_spec.specs.Constraints.{term_value, term_values}
use Rattle.fz_strength.specs.Domains.{term_set, AreDomains, Within, IsNarrower, IsTermOf}
use Rattle.fz_prop.proofs.Filled.{term_ranges, narrower_ranges}
use Rattle.fz_prop.proofs.TermChanges.{term_within, narrower_term}
use Rattle.fz_alldiff.specs.Differing.{IsDifferent}
use Rattle.fz_strength.specs.Differences.{is_between, is_confined}
use Rattle.fz_hall.specs.Intervals.{IsFull, IsKeptOut}
use Rattle.fz_hall.proofs.Crowding.{bit, count_more, both_le, both_from, not_true, bit_le, few_between}

-- ---- one term

pub value_from : (ds : List (List (ℤ × ℤ))) (a : List ℤ) (t : Term) → IsTermOf (length ds) t → AreDomains ds → Within ds a → least (term_set ds t) ≤ℤ term_value a t
value_from ds a t is domains within = least_below (term_set ds t) (term_value a t) (term_ranges ds t is domains).ranges (term_within ds a t is within)

pub value_to : (ds : List (List (ℤ × ℤ))) (a : List ℤ) (t : Term) → IsTermOf (length ds) t → AreDomains ds → Within ds a → term_value a t ≤ℤ greatest (term_set ds t)
value_to ds a t is domains within = upper_bound (term_set ds t) (term_value a t) (term_ranges ds t is domains).ranges (term_within ds a t is within)

pub confined_is : (ds : List (List (ℤ × ℤ))) (low high : ℤ) (t : Term) → is_confined ds low high t ≡ true → (low ≤ℤ least (term_set ds t)) × (greatest (term_set ds t) ≤ℤ high)
confined_is ds low high t h = both_le low (least (term_set ds t)) (greatest (term_set ds t)) high h

confined_value : (ds : List (List (ℤ × ℤ))) (a : List ℤ) (low high : ℤ) (t : Term) → IsTermOf (length ds) t → AreDomains ds → Within ds a → is_confined ds low high t ≡ true
    → is_between low high (term_value a t) ≡ true
confined_value ds a low high t is domains within h =
    let ends = confined_is ds low high t h in
    let l = ends.0 in
    let g = ends.1 in
    let from = value_from ds a t is domains within in
    let to = value_to ds a t is domains within in
    both_from low (term_value a t) (term_value a t) high (omega (arith, ints, l, from)) (omega (arith, ints, g, to))

-- what is confined stays so
pub still_confined : (ds es : List (List (ℤ × ℤ))) (low high : ℤ) (t : Term) → IsTermOf (length ds) t → AreDomains ds → AreDomains es → IsNarrower ds es → is_confined ds low high t ≡ true
    → is_confined es low high t ≡ true
still_confined ds es low high t is before after narrower h =
    let ends = confined_is ds low high t h in
    let l = ends.0 in
    let g = ends.1 in
    let d = term_set ds t in
    let e = term_set es t in
    let has = term_ranges ds t is before in
    let left = narrower_ranges ds es t is after narrower in
    let from = least_below d (least e) has.ranges (narrower_term ds es t narrower (least e) (least_member e left.some left.ranges).0) in
    let to = upper_bound d (greatest e) has.ranges (narrower_term ds es t narrower (greatest e) (greatest_member e left.some left.ranges).0) in
    both_from low (least e) (greatest e) high (omega (arith, ints, l, from)) (omega (arith, ints, g, to))

-- ---- all terms

few_confined : (ds : List (List (ℤ × ℤ))) (a : List ℤ) (low high : ℤ) (xs : List Term) → AllByRecursion (IsTermOf (length ds)) xs → AreDomains ds → Within ds a
    → count_by (is_confined ds low high) xs ≤ count_by (is_between low high) (term_values a xs)
few_confined ds a low high [] terms domains within = let none : count_by (is_confined ds low high) [] ≡ 0 = refl in omega (arith, none)
few_confined ds a low high (x ∷ xs) terms domains within =
    let left = count_more (is_confined ds low high) x xs in
    let right = count_more (is_between low high) (term_value a x) (term_values a xs) in
    let here = bit_le (is_confined ds low high x) (is_between low high (term_value a x)) (confined_value ds a low high x terms.0 domains within) in
    let rest = few_confined ds a low high xs terms.1 domains within in
    omega (arith, left, right, here, rest)

-- one more where a term that isn't confined has its number there
one_more : (ds : List (List (ℤ × ℤ))) (a : List ℤ) (low high : ℤ) (xs : List Term) (j : ℕ) (t : Term) → AllByRecursion (IsTermOf (length ds)) xs → AreDomains ds → Within ds a
    → slice_get xs j ≡ Some t → is_confined ds low high t ≡ false → is_between low high (term_value a t) ≡ true
    → suc (count_by (is_confined ds low high) xs) ≤ count_by (is_between low high) (term_values a xs)
one_more ds a low high [] j t terms domains within at outside inside = absurd (cc (at))
one_more ds a low high (x ∷ xs) zero t terms domains within at outside inside =
    let same = some_is x t at in
    let left = count_more (is_confined ds low high) x xs in
    let right = count_more (is_between low high) (term_value a x) (term_values a xs) in
    let out : bit (is_confined ds low high x) ≡ 0 = ap bit (subst (λ (u : Term). is_confined ds low high u ≡ false) (sym same) outside) in
    let in_ : bit (is_between low high (term_value a x)) ≡ 1 = ap bit (subst (λ (u : Term). is_between low high (term_value a u) ≡ true) (sym same) inside) in
    let rest = few_confined ds a low high xs terms.1 domains within in
    omega (arith, left, right, out, in_, rest)
one_more ds a low high (x ∷ xs) (suc j) t terms domains within at outside inside =
    let left = count_more (is_confined ds low high) x xs in
    let right = count_more (is_between low high) (term_value a x) (term_values a xs) in
    let here = bit_le (is_confined ds low high x) (is_between low high (term_value a x)) (confined_value ds a low high x terms.0 domains within) in
    let rest = one_more ds a low high xs j t terms.1 domains within at outside inside in
    omega (arith, left, right, here, rest)

-- more terms are confined to an interval than it has numbers
crowded : (n : ℕ) (ds : List (List (ℤ × ℤ))) (a : List ℤ) (low high : ℤ) (xs : List Term) → AllByRecursion (IsTermOf (length ds)) xs → AreDomains ds → Within ds a → IsDifferent xs a
    → count_by (is_confined ds low high) xs ≡ suc n → (high +ℤ pos 1) ≤ℤ (low +ℤ pos n) → ⊥
crowded n ds a low high xs terms domains within different count size =
    let all = few_confined ds a low high xs terms domains within in
    let few = few_between n low high (term_values a xs) size different in
    omega (arith, all, few, count)

some_before : (n : ℕ) → (n ≡ 0 → ⊥) → (m : ℕ) × (n ≡ suc m)
some_before zero some = absurd (some refl)
some_before (suc n) some = (n, refl)

pub never_crowded : (ds : List (List (ℤ × ℤ))) (a : List ℤ) (low high : ℤ) (count : ℕ) (xs : List Term) → AllByRecursion (IsTermOf (length ds)) xs → AreDomains ds
    → count ≡ count_by (is_confined ds low high) xs → (count ≡ 0 → ⊥) → ((high -ℤ low) +ℤ pos 1) <ℤ pos count → Within ds a → IsDifferent xs a → ⊥
never_crowded ds a low high count xs terms domains is some more within different =
    let before = some_before count some in
    let e = before.1 in
    crowded before.0 ds a low high xs terms domains within different (subst (λ (n : ℕ). n ≡ suc before.0) is e)
    (let above : ((high -ℤ low) +ℤ pos 1) <ℤ pos (suc before.0) = subst (λ (n : ℕ). ((high -ℤ low) +ℤ pos 1) <ℤ pos n) e more in omega (arith, ints, above))

-- terms that fill an interval keep the others out
pub kept_out : (ds : List (List (ℤ × ℤ))) (a : List ℤ) (low high : ℤ) (xs : List Term) (j : ℕ) (t : Term) → AllByRecursion (IsTermOf (length ds)) xs → AreDomains ds → IsFull ds xs low high
    → slice_get xs j ≡ Some t → Within ds a → IsDifferent xs a → IsKeptOut ds t low high a
kept_out ds a low high xs j t terms domains full at within different = λ outside.
    not_true (is_between low high (term_value a t)) (λ inside.
    let more = one_more ds a low high xs j t terms domains within at outside inside in
    let few = few_between (count_by (is_confined ds low high) xs) low high (term_values a xs) (omega (arith, ints, full)) different in
    omega (arith, more, few))
