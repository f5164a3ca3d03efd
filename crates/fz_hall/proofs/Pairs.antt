-- No interval is crowded where none from the least number of a term to the greatest of a term is.
use Rattle.std.proofs.Common.{◌≡◌, ◌⊎◌, inl, inr, ℕ, suc, ◌+◌, ◌≤◌, ◌<◌, List, [], ◌∷◌, refl, sym, ap, subst, arith, length, take, get_or, add-one}
use Rattle.std.specs.Prelude.{ℤ, pos, negsuc, ◌-ℤ◌, ◌≤ℤ◌, ◌<ℤ◌, Bool, true, false, count_by, slice_get, Some}
use Rattle.std.specs.List.{AllByRecursion}
use Rattle.std.proofs.lemmas.Int.{ints, by_lt_z}
use Rattle.std.proofs.lemmas.List.{take_all}
use Rattle.fz_sets.proofs.Lists.{all_at, all_more}
use Rattle.fz_dom.proofs.Ranges.{least_below, greatest_member}
use Rattle.fz_prop.specs.Stores.{Stored}
use Rattle.fz_prop.proofs.Filled.{term_ranges}
use Rattle.fz_dom.specs.Shape.{least, greatest}
use Rattle.fz_spec.specs.declared.term.Term.{Term}
use Rattle.fz_spec.specs.declared.term.Term.TheVariants.{Num}
use Rattle.fz_strength.specs.Domains.{term_set, AreDomains, IsTermOf}
use Rattle.fz_strength.specs.Differences.{AreSpread, IsSpread, confined, interval_size, is_confined}
use Rattle.fz_strength.proofs.Spreads.{AreOrdered, count_le}
use Rattle.fz_hall.specs.Lefts.{AreSpreadFrom, IsSpreadTo}
use Rattle.fz_hall.proofs.Crowding.{bit, count_more, both_le, both_from}

-- one with a property of which a number is no greater than of any other with it
record IsFirst (f : Term → ℤ) (p : Term → Bool) (xs : List Term) : Type 0 where
  place : ℕ
  term : Term
  at : slice_get xs place ≡ Some term
  has : p term ≡ true
  first : AllByRecursion (λ (y : Term). p y ≡ true → f term ≤ℤ f y) xs

none_before : (f : Term → ℤ) (p : Term → Bool) (n : ℤ) (xs : List Term) → count_by p xs ≡ 0 → AllByRecursion (λ (y : Term). p y ≡ true → n ≤ℤ f y) xs
none_before f p n [] none = tt
none_before f p n (x ∷ xs) none =
    let more = count_more p x xs in (
      (λ h. let one : bit (p x) ≡ 1 = ap bit h in absurd (omega (arith, more, one, none))),
      none_before f p n xs (omega (arith, more, none)),
    )

all_after : (f : Term → ℤ) (p : Term → Bool) (m n : ℤ) (xs : List Term) → m ≤ℤ n → AllByRecursion (λ (y : Term). p y ≡ true → n ≤ℤ f y) xs → AllByRecursion (λ (y : Term). p y ≡ true → m ≤ℤ f y) xs
all_after f p m n [] less all = tt
all_after f p m n (x ∷ xs) less all = ((λ h. let from = all.0 h in omega (arith, ints, less, from)), all_after f p m n xs less all.1)

first_here : (f : Term → ℤ) (p : Term → Bool) (x : Term) (xs : List Term) → p x ≡ true → (count_by p xs ≡ 0) ⊎ IsFirst f p xs → IsFirst f p (x ∷ xs)
first_here f p x xs has (inl none) = record { place = 0; term = x; at = refl; has = has; first = ((λ h. omega (arith, ints)), none_before f p (f x) xs none) }
first_here f p x xs has (inr is) = by_lt_z (f is.term) (f x)
    (λ less. record { place = suc is.place; term = is.term; at = is.at; has = is.has; first = ((λ h. omega (arith, ints, less)), is.first) })
    (λ more. record { place = 0; term = x; at = refl; has = has; first = ((λ h. omega (arith, ints)), all_after f p (f x) (f is.term) xs more is.first) })

first_later : (f : Term → ℤ) (p : Term → Bool) (x : Term) (xs : List Term) → p x ≡ false → (count_by p xs ≡ 0) ⊎ IsFirst f p xs → (count_by p (x ∷ xs) ≡ 0) ⊎ IsFirst f p (x ∷ xs)
first_later f p x xs lacks (inl none) = inl (let more = count_more p x xs in let zero_here : bit (p x) ≡ 0 = ap bit lacks in omega (arith, more, zero_here, none))
first_later f p x xs lacks (inr is) = inr record { place = suc is.place; term = is.term; at = is.at; has = is.has; first = ((λ h. absurd (cc (h, lacks))), is.first) }

first_of : (f : Term → ℤ) (p : Term → Bool) (xs : List Term) → (count_by p xs ≡ 0) ⊎ IsFirst f p xs
first_of f p [] = inl refl
first_of f p (x ∷ xs) = elim (p x) as (λ (b : Bool). p x ≡ b → (count_by p (x ∷ xs) ≡ 0) ⊎ IsFirst f p (x ∷ xs)) [
  | true ↦ λ h. inr (first_here f p x xs h (first_of f p xs))
  | false ↦ λ h. first_later f p x xs h (first_of f p xs)
] refl

-- ---- an interval that is as short as its terms let it

abbrev low_of : List (List (ℤ × ℤ)) → Term → ℤ
low_of ds t = least (term_set ds t)

abbrev high_of : List (List (ℤ × ℤ)) → Term → ℤ
high_of ds t = negsuc 0 -ℤ greatest (term_set ds t)

all_shorter : (ds : List (List (ℤ × ℤ))) (low high from to : ℤ) (xs : List Term) → AllByRecursion (λ (y : Term). is_confined ds low high y ≡ true → from ≤ℤ low_of ds y) xs
    → AllByRecursion (λ (y : Term). is_confined ds low high y ≡ true → (negsuc 0 -ℤ to) ≤ℤ high_of ds y) xs
    → AllByRecursion (λ (y : Term). is_confined ds low high y ≡ true → is_confined ds from to y ≡ true) xs
all_shorter ds low high from to [] lows highs = tt
all_shorter ds low high from to (x ∷ xs) lows highs = (
  (λ h. let l = lows.0 h in let g = highs.0 h in both_from from (least (term_set ds x)) (greatest (term_set ds x)) to l (omega (arith, ints, g))),
  all_shorter ds low high from to xs lows.1 highs.1,
)

pub few_spread : (xs : List Term) (ds : List (List (ℤ × ℤ))) (low high : ℤ) → pos (confined xs ds low high) <ℤ interval_size low high → IsSpread xs ds low high
few_spread xs ds low high fewer = record { few = omega (arith, ints, fewer); clear = λ full. absurd (omega (arith, ints, fewer, full)) }

same_spread : (xs : List Term) (ds : List (List (ℤ × ℤ))) (low high from to : ℤ) → from ≡ low → to ≡ high → IsSpread xs ds from to → IsSpread xs ds low high
same_spread xs ds low high from to p q h = subst (λ (u : ℤ). IsSpread xs ds low u) q (subst (λ (l : ℤ). IsSpread xs ds l to) p h)

many_spread : (xs : List Term) (ds : List (List (ℤ × ℤ))) (low high : ℤ) → AreOrdered ds xs → AllByRecursion (λ (t : Term). AreSpreadFrom xs ds (least (term_set ds t))) xs
    → interval_size low high ≤ℤ pos (confined xs ds low high) → IsFirst (low_of ds) (is_confined ds low high) xs → IsFirst (high_of ds) (is_confined ds low high) xs → IsSpread xs ds low high
many_spread xs ds low high ordered pairs many one other =
    let from = least (term_set ds one.term) in
    let to = greatest (term_set ds other.term) in
    let low_ends = both_le low (least (term_set ds one.term)) (greatest (term_set ds one.term)) high one.has in
    let high_ends = both_le low (least (term_set ds other.term)) (greatest (term_set ds other.term)) high other.has in
    let from_low = low_ends.0 in
    let to_high = high_ends.1 in
    let least_one = all_at (λ (y : Term). is_confined ds low high y ≡ true → from ≤ℤ low_of ds y) xs other.place other.term one.first other.at other.has in
    let order_one = all_at (λ (y : Term). least (term_set ds y) ≤ℤ greatest (term_set ds y)) xs other.place other.term ordered other.at in
    let order : from ≤ℤ to = omega (arith, ints, least_one, order_one) in
    let spread : IsSpread xs ds from to =
    all_at (IsSpreadTo xs ds from) xs other.place other.term (all_at (λ (t : Term). AreSpreadFrom xs ds (least (term_set ds t))) xs one.place one.term pairs one.at) other.at order in
    let most = count_le (is_confined ds low high) (is_confined ds from to) xs (all_shorter ds low high from to xs one.first other.first) in
    let few = spread.few in
    same_spread xs ds low high from to (omega (arith, ints, many, most, few, from_low, to_high)) (omega (arith, ints, many, most, few, from_low, to_high)) spread

some_confined : (n : ℕ) (d : ℤ) → pos 1 ≤ℤ d → d ≤ℤ pos n → n ≡ 0 → ⊥
some_confined n d size many none = omega (arith, ints, size, many, none)

spread_at : (xs : List Term) (ds : List (List (ℤ × ℤ))) (low high : ℤ) → low ≤ℤ high → AreOrdered ds xs → AllByRecursion (λ (t : Term). AreSpreadFrom xs ds (least (term_set ds t))) xs
    → interval_size low high ≤ℤ pos (confined xs ds low high) → (confined xs ds low high ≡ 0) ⊎ IsFirst (low_of ds) (is_confined ds low high) xs
    → (confined xs ds low high ≡ 0) ⊎ IsFirst (high_of ds) (is_confined ds low high) xs → IsSpread xs ds low high
spread_at xs ds low high order ordered pairs many (inl none) other = absurd (some_confined (confined xs ds low high) (interval_size low high) (omega (arith, ints, order)) many none)
spread_at xs ds low high order ordered pairs many (inr one) (inl none) = absurd (some_confined (confined xs ds low high) (interval_size low high) (omega (arith, ints, order)) many none)
spread_at xs ds low high order ordered pairs many (inr one) (inr other) = many_spread xs ds low high ordered pairs many one other

pub spread_by_pairs : (xs : List Term) (ds : List (List (ℤ × ℤ))) → AreOrdered ds xs → AllByRecursion (λ (t : Term). AreSpreadFrom xs ds (least (term_set ds t))) xs → AreSpread xs ds
spread_by_pairs xs ds ordered pairs = λ low high order.
    by_lt_z (pos (confined xs ds low high)) (interval_size low high) (λ fewer. few_spread xs ds low high fewer)
    (λ many. spread_at xs ds low high order ordered pairs many (first_of (low_of ds) (is_confined ds low high) xs) (first_of (high_of ds) (is_confined ds low high) xs))

-- ---- one after the other

pub all_ordered : (ds : List (List (ℤ × ℤ))) (xs : List Term) → AllByRecursion (IsTermOf (length ds)) xs → AreDomains ds → AreOrdered ds xs
all_ordered ds [] terms domains = tt
all_ordered ds (x ∷ xs) terms domains =
    let has = term_ranges ds x terms.0 domains in
    (least_below (term_set ds x) (greatest (term_set ds x)) has.ranges (greatest_member (term_set ds x) has.some has.ranges).0, all_ordered ds xs terms.1 domains)

pub spread_more : (xs : List Term) (s t : Stored) (k : ℕ) (low high : ℤ) → t ≡ s → k < length xs → AllByRecursion (IsSpreadTo xs s.doms low) (take k xs) → high ≡ greatest (term_set s.doms (get_or xs k (Num (pos 0))))
    → (low ≤ℤ high → IsSpread xs t.doms low high) → AllByRecursion (IsSpreadTo xs t.doms low) (take (k + 1) xs)
spread_more xs s t k low high same within spread is here =
    let now : IsSpreadTo xs s.doms low (get_or xs k (Num (pos 0))) = subst (λ (n : ℤ). low ≤ℤ n → IsSpread xs s.doms low n) is (subst (λ (v : Stored). low ≤ℤ high → IsSpread xs v.doms low high) same here) in
    subst (λ (v : Stored). AllByRecursion (IsSpreadTo xs v.doms low) (take (k + 1) xs)) (sym same) (rw add-one (all_more (IsSpreadTo xs s.doms low) xs k (Num (pos 0)) within spread now))

pub pairs_more : (xs : List Term) (s t : Stored) (k : ℕ) (low : ℤ) → t ≡ s → k < length xs → AllByRecursion (λ (u : Term). AreSpreadFrom xs s.doms (least (term_set s.doms u))) (take k xs)
    → low ≡ least (term_set s.doms (get_or xs k (Num (pos 0)))) → AreSpreadFrom xs t.doms low → AllByRecursion (λ (u : Term). AreSpreadFrom xs t.doms (least (term_set t.doms u))) (take (k + 1) xs)
pairs_more xs s t k low same within pairs is here =
    let P : Stored → Term → Type 0 = λ (v : Stored) (u : Term). AreSpreadFrom xs v.doms (least (term_set v.doms u)) in
    let now : P s (get_or xs k (Num (pos 0))) = subst (λ (n : ℤ). AreSpreadFrom xs s.doms n) is (subst (λ (v : Stored). AreSpreadFrom xs v.doms low) same here) in
    subst (λ (v : Stored). AllByRecursion (P v) (take (k + 1) xs)) (sym same) (rw add-one (all_more (P s) xs k (Num (pos 0)) within pairs now))

pub pairs_all : (xs : List Term) (r s : Stored) (k : ℕ) → AllByRecursion (IsTermOf (length r.doms)) xs → AreDomains r.doms → s ≡ r → length xs ≤ k
    → AllByRecursion (λ (u : Term). AreSpreadFrom xs s.doms (least (term_set s.doms u))) (take k xs) → AreSpread xs s.doms
pairs_all xs r s k terms domains same end pairs =
    let P : Stored → Term → Type 0 = λ (v : Stored) (u : Term). AreSpreadFrom xs v.doms (least (term_set v.doms u)) in
    let all : AllByRecursion (P r) xs = subst (AllByRecursion (P r)) (take_all k xs end) (subst (λ (v : Stored). AllByRecursion (P v) (take k xs)) same pairs) in
    subst (λ (v : Stored). AreSpread xs v.doms) (sym same) (spread_by_pairs xs r.doms (all_ordered r.doms xs terms domains) all)
