-- From one number on: how many terms begin and end up to another, and which intervals have not too many.
use Rattle.std.proofs.Common.{◌≡◌, inl, inr, ℕ, ◌+◌, ◌-◌, ◌<◌, ◌≤◌, List, [], ◌∷◌, ◌∙◌, refl, sym, ap, subst, arith}
use Rattle.std.specs.Prelude.{ℤ, pos, ◌+ℤ◌, ◌-ℤ◌, ◌≤ℤ◌, ◌<ℤ◌, Bool, true, false, count_by, slice_get, Some}
use Rattle.std.specs.List.{AllByRecursion}
use Rattle.std.specs.Ordering.{int_eq}
use Rattle.std.proofs.lemmas.Bool.Decides.{Decides-int_eq}
use Rattle.std.proofs.lemmas.Int.{ints, by_lt_z}
use Rattle.std.proofs.lemmas.Bool.{cases_eq}
use Rattle.fz_sets.proofs.Lists.{all_at, below_or_same}
use Rattle.fz_dom.specs.Shape.{least, greatest}
use Rattle.fz_spec.specs.declared.term.Term.{Term}
use Rattle.fz_strength.specs.Domains.{term_set}
use Rattle.fz_strength.specs.Differences.{AreSpread, IsSpread, interval_size, is_between, is_confined}
use Rattle.fz_strength.proofs.Spreads.{AreOrdered, all_spread, count_le, spread_by_few}
use Rattle.fz_hall.specs.Counts.{AreSpreadOn, IsExcess, IsInSpan, IsSeenAt, IsWidth, begins_at, ends_at}
use Rattle.fz_hall.proofs.Crowding.{bit, count_more, both_le, both_from, between_is, not_true}
use Rattle.fz_hall.proofs.Seating.{nat_of, width_of}
use Rattle.fz_hall.proofs.Turning.{same_truth}
use Rattle.fz_hall.proofs.Pairs.{few_spread}

-- ---- one number more

eq_yes : (a b : ℤ) → a ≡ b → int_eq a b ≡ true
eq_yes a b e = (Decides-int_eq a b).1 e

not_last : (n m x : ℤ) → (x ≡ m → ⊥) → is_between n m x ≡ is_between n (m -ℤ pos 1) x
not_last n m x other = same_truth (is_between n m x) (is_between n (m -ℤ pos 1) x)
    (λ h. let is = between_is n m x h in let to = is.1 in both_from n x x (m -ℤ pos 1) is.0 (by_lt_z x m (λ below. omega (arith, ints, below)) (λ above. absurd (other (omega (arith, ints, above, to))))))
    (λ h. let is = between_is n (m -ℤ pos 1) x h in let to = is.1 in both_from n x x m is.0 (omega (arith, ints, to)))

not_first : (n m x : ℤ) → (x ≡ n → ⊥) → is_between n m x ≡ is_between (n +ℤ pos 1) m x
not_first n m x other = same_truth (is_between n m x) (is_between (n +ℤ pos 1) m x)
    (λ h. let is = between_is n m x h in let from = is.0 in both_from (n +ℤ pos 1) x x m (by_lt_z n x (λ below. omega (arith, ints, below)) (λ above. absurd (other (omega (arith, ints, above, from))))) is.1)
    (λ h. let is = between_is (n +ℤ pos 1) m x h in let from = is.0 in both_from n x x m (omega (arith, ints, from)) is.1)

bit_last : (n m x : ℤ) (b : Bool) → n ≤ℤ m → int_eq x m ≡ b → bit (is_between n m x) ≡ bit (is_between n (m -ℤ pos 1) x) + bit b
bit_last n m x true order e =
    let same = (Decides-int_eq x m).0 e in
    let here : bit (is_between n m x) ≡ 1 = ap bit (both_from n x x m (omega (arith, ints, same, order)) (omega (arith, ints, same))) in
    let before : bit (is_between n (m -ℤ pos 1) x) ≡ 0 = ap bit (not_true (is_between n (m -ℤ pos 1) x) (λ h. let to = (between_is n (m -ℤ pos 1) x h).1 in omega (arith, ints, same, to))) in
    omega (arith, here, before)
bit_last n m x false order e =
    let same = ap bit (not_last n m x (λ h. let yes = eq_yes x m h in absurd (cc (yes, e)))) in
    omega (arith, same)

bit_first : (n m x : ℤ) (b : Bool) → n ≤ℤ m → int_eq x n ≡ b → bit (is_between n m x) ≡ bit b + bit (is_between (n +ℤ pos 1) m x)
bit_first n m x true order e =
    let same = (Decides-int_eq x n).0 e in
    let here : bit (is_between n m x) ≡ 1 = ap bit (both_from n x x m (omega (arith, ints, same)) (omega (arith, ints, same, order))) in
    let after : bit (is_between (n +ℤ pos 1) m x) ≡ 0 = ap bit (not_true (is_between (n +ℤ pos 1) m x) (λ h. let from = (between_is (n +ℤ pos 1) m x h).0 in omega (arith, ints, same, from))) in
    omega (arith, here, after)
bit_first n m x false order e =
    let same = ap bit (not_first n m x (λ h. let yes = eq_yes x n h in absurd (cc (yes, e)))) in
    omega (arith, same)

pub count_last : (f : Term → ℤ) (n m : ℤ) (xs : List Term) → n ≤ℤ m
    → count_by (λ (t : Term). is_between n m (f t)) xs ≡ count_by (λ (t : Term). is_between n (m -ℤ pos 1) (f t)) xs + count_by (λ (t : Term). int_eq (f t) m) xs
count_last f n m [] order = refl
count_last f n m (x ∷ xs) order =
    let a = count_more (λ (t : Term). is_between n m (f t)) x xs in
    let b = count_more (λ (t : Term). is_between n (m -ℤ pos 1) (f t)) x xs in
    let d = count_more (λ (t : Term). int_eq (f t) m) x xs in
    let here = bit_last n m (f x) (int_eq (f x) m) order refl in
    let rest = count_last f n m xs order in
    omega (arith, a, b, d, here, rest)

count_first : (f : Term → ℤ) (n m : ℤ) (xs : List Term) → n ≤ℤ m
    → count_by (λ (t : Term). is_between n m (f t)) xs ≡ count_by (λ (t : Term). int_eq (f t) n) xs + count_by (λ (t : Term). is_between (n +ℤ pos 1) m (f t)) xs
count_first f n m [] order = refl
count_first f n m (x ∷ xs) order =
    let a = count_more (λ (t : Term). is_between n m (f t)) x xs in
    let b = count_more (λ (t : Term). is_between (n +ℤ pos 1) m (f t)) x xs in
    let d = count_more (λ (t : Term). int_eq (f t) n) x xs in
    let here = bit_first n m (f x) (int_eq (f x) n) order refl in
    let rest = count_first f n m xs order in
    omega (arith, a, b, d, here, rest)

pub count_empty : (f : Term → ℤ) (n m : ℤ) (xs : List Term) → m <ℤ n → count_by (λ (t : Term). is_between n m (f t)) xs ≡ 0
count_empty f n m [] empty = refl
count_empty f n m (x ∷ xs) empty =
    let more = count_more (λ (t : Term). is_between n m (f t)) x xs in
    let here : bit (is_between n m (f x)) ≡ 0 = ap bit (not_true (is_between n m (f x)) (λ h. let is = between_is n m (f x) h in let a = is.0 in let b = is.1 in omega (arith, ints, a, b, empty))) in
    let rest = count_empty f n m xs empty in
    omega (arith, more, here, rest)

-- of one number
count_one : (f : Term → ℤ) (n : ℤ) (xs : List Term) → count_by (λ (t : Term). is_between n n (f t)) xs ≡ count_by (λ (t : Term). int_eq (f t) n) xs
count_one f n xs =
    let last = count_last f n n xs (omega (arith, ints)) in
    let none = count_empty f n (n -ℤ pos 1) xs (omega (arith, ints)) in
    omega (arith, last, none)

-- ---- what ends up to a number exceeds the numbers

pub excess_more : (xs : List Term) (ds : List (List (ℤ × ℤ))) (n high excess next : ℤ) (ends : ℕ) → ends ≡ count_by (ends_at ds n) xs → IsExcess xs ds (n +ℤ pos 1) high next → pos ends ≤ℤ (excess +ℤ pos 1) → (next +ℤ pos ends) ≤ℤ (excess +ℤ pos 1)
    → IsExcess xs ds n high excess
excess_more xs ds n high excess next ends is after alone both = λ u from to.
    let first = count_first (λ (t : Term). greatest (term_set ds t)) n u xs from in
    by_lt_z n u
    (λ more. let rest = after u (omega (arith, ints, more)) to in omega (arith, ints, first, is, rest, both))
    (λ last. let none = count_empty (λ (t : Term). greatest (term_set ds t)) (n +ℤ pos 1) u xs (omega (arith, ints, last)) in omega (arith, ints, first, is, none, alone, from, last))

-- ---- intervals from a number on

beyond_within : (ds : List (List (ℤ × ℤ))) (low n top high : ℤ) (xs : List Term) → AllByRecursion (IsInSpan ds low top) xs → AllByRecursion (λ (t : Term). is_confined ds n high t ≡ true → is_confined ds n top t ≡ true) xs
beyond_within ds low n top high [] span = tt
beyond_within ds low n top high (x ∷ xs) span =
    ((λ h. both_from n (least (term_set ds x)) (greatest (term_set ds x)) top (both_le n (least (term_set ds x)) (greatest (term_set ds x)) high h).0 span.0.to), beyond_within ds low n top high xs span.1)

spread_beyond : (xs : List Term) (ds : List (List (ℤ × ℤ))) (low n top high : ℤ) → top <ℤ high → AllByRecursion (IsInSpan ds low top) xs → IsSpread xs ds n top → IsSpread xs ds n high
spread_beyond xs ds low n top high behind span is =
    let most = count_le (is_confined ds n high) (is_confined ds n top) xs (beyond_within ds low n top high xs span) in
    let few = is.few in
    few_spread xs ds n high (omega (arith, ints, most, few, behind))

spread_on : (xs : List Term) (ds : List (List (ℤ × ℤ))) (low n top : ℤ) → n ≤ℤ top → AllByRecursion (IsInSpan ds low top) xs → ((u : ℤ) → n ≤ℤ u → u ≤ℤ top → IsSpread xs ds n u) → AreSpreadOn xs ds n
spread_on xs ds low n top within span each = λ high from. by_lt_z top high
    (λ behind. spread_beyond xs ds low n top high behind span (each top within (omega (arith, ints))))
    (λ inside. each high from inside)

pub spread_reached : (xs : List Term) (ds : List (List (ℤ × ℤ))) (low top : ℤ) (place width : ℕ) → IsWidth low top width → (low +ℤ pos place) ≤ℤ top → AllByRecursion (IsInSpan ds low top) xs
    → ((u : ℕ) → place ≤ u → u < width → IsSpread xs ds (low +ℤ pos place) (low +ℤ pos u)) → AreSpreadOn xs ds (low +ℤ pos place)
spread_reached xs ds low top place width is within span each = spread_on xs ds low (low +ℤ pos place) top within span (λ u from to.
    let at = nat_of (u -ℤ low) (omega (arith, ints, from)) in
    let same = at.1 in
    let behind = is.behind (omega (arith, ints, within)) in
    let moved : (low +ℤ pos at.0) ≡ u = omega (arith, ints, same) in
    subst (λ (n : ℤ). IsSpread xs ds (low +ℤ pos place) n) moved (each at.0 (omega (arith, ints, same, from)) (omega (arith, ints, same, to, behind))))

pub spread_by_excess : (xs : List Term) (ds : List (List (ℤ × ℤ))) (low n top excess : ℤ) → n ≤ℤ top → AreOrdered ds xs → AllByRecursion (IsInSpan ds low top) xs → IsExcess xs ds n top excess → excess <ℤ pos 0 → AreSpreadOn xs ds n
spread_by_excess xs ds low n top excess within ordered span is fewer = spread_on xs ds low n top within span (λ u from to.
    let w = width_of n u from in
    let size = w.1 in
    let most = is u from to in
    spread_by_few xs ds n u w.0 ordered size (inl (inr (omega (arith, ints, size, most, fewer)))))

-- ---- what is seen at a number

pub seen_on : (xs : List Term) (ds : List (List (ℤ × ℤ))) (n : ℤ) → AreSpreadOn xs ds n → IsSeenAt xs ds n
seen_on xs ds n on = record { wide = λ i t at is apart. on; single = λ i t at is fixed. on n (omega (arith, ints)) }

none_count : {X : Type 0} (p : X → Bool) (xs : List X) → count_by p xs ≡ 0 → AllByRecursion (λ (x : X). p x ≡ true → ⊥) xs
none_count p [] none = tt
none_count p (x ∷ xs) none =
    let more = count_more p x xs in
    ((λ h. let one : bit (p x) ≡ 1 = ap bit h in omega (arith, more, one, none)), none_count p xs (omega (arith, more, none)))

pub seen_none : (xs : List Term) (ds : List (List (ℤ × ℤ))) (n : ℤ) → count_by (begins_at ds n) xs ≡ 0 → IsSeenAt xs ds n
seen_none xs ds n none =
    let never : (i : ℕ) (t : Term) → slice_get xs i ≡ Some t → least (term_set ds t) ≡ n → ⊥ = λ i t at is.
    all_at (λ (x : Term). begins_at ds n x ≡ true → ⊥) xs i t (none_count (begins_at ds n) xs none) at (eq_yes (least (term_set ds t)) n is) in
    record { wide = λ i t at is apart. absurd (never i t at is); single = λ i t at is fixed. absurd (never i t at is) }

one_size : (n : ℤ) → interval_size n n ≡ pos 1
one_size n = omega (arith, ints)

pub seen_single : (xs : List Term) (ds : List (List (ℤ × ℤ))) (n : ℤ) → AreOrdered ds xs → AllByRecursion (λ (t : Term). least (term_set ds t) ≡ n → greatest (term_set ds t) ≡ n) xs → count_by (begins_at ds n) xs ≤ 1 → count_by (ends_at ds n) xs ≤ 1
    → IsSeenAt xs ds n
seen_single xs ds n ordered closed begins ends =
    let first = count_one (λ (t : Term). least (term_set ds t)) n xs in
    let last = count_one (λ (t : Term). greatest (term_set ds t)) n xs in
    record {
      wide = λ i t at is apart. absurd (apart (is ∙ sym (all_at (λ (x : Term). least (term_set ds x) ≡ n → greatest (term_set ds x) ≡ n) xs i t closed at is)));
      single = λ i t at is fixed. spread_by_few xs ds n n 1 ordered (one_size n) (inr (omega (arith, first, begins), omega (arith, last, ends)));
    }

-- ---- all numbers

pub seen_all : (xs : List Term) (ds : List (List (ℤ × ℤ))) (low top : ℤ) (width : ℕ) → IsWidth low top width → AreOrdered ds xs → AllByRecursion (IsInSpan ds low top) xs → ((v : ℕ) → v < width → IsSeenAt xs ds (low +ℤ pos v)) → AreSpread xs ds
seen_all xs ds low top width is ordered span seen =
    let at_least : (i : ℕ) (t : Term) → slice_get xs i ≡ Some t → IsSeenAt xs ds (least (term_set ds t)) = λ i t at.
    (let inside = all_at (IsInSpan ds low top) xs i t span at in
    let from = inside.from in
    let to = inside.to in
    let order = all_at (λ (x : Term). least (term_set ds x) ≤ℤ greatest (term_set ds x)) xs i t ordered at in
    let behind = is.behind (omega (arith, ints, from, order, to)) in
    let place = nat_of (least (term_set ds t) -ℤ low) (omega (arith, ints, from)) in
    let same = place.1 in
    let moved : (low +ℤ pos place.0) ≡ least (term_set ds t) = omega (arith, ints, same) in
    subst (λ (n : ℤ). IsSeenAt xs ds n) moved (seen place.0 (omega (arith, ints, same, order, to, behind)))) in
    all_spread xs ds ordered (record {
      wide = λ i t at apart high from. (at_least i t at).wide i t at refl apart high from;
      single = λ i t at fixed. (at_least i t at).single i t at refl fixed;
    })

-- ---- one number after the other

pub count_reached : (f : Term → ℤ) (xs : List Term) (low : ℤ) (place last so_far here : ℕ) → place ≤ last → so_far ≡ count_by (λ (t : Term). is_between (low +ℤ pos place) ((low +ℤ pos last) -ℤ pos 1) (f t)) xs
    → here ≡ count_by (λ (t : Term). int_eq (f t) (low +ℤ pos last)) xs → so_far + here ≡ count_by (λ (t : Term). is_between (low +ℤ pos place) (low +ℤ pos last) (f t)) xs
count_reached f xs low place last so_far here order before at =
    let step = count_last f (low +ℤ pos place) (low +ℤ pos last) xs (omega (arith, ints, order)) in
    omega (arith, step, before, at)

pub reached_next : (f : Term → ℤ) (xs : List Term) (low : ℤ) (place last sum : ℕ) → sum ≡ count_by (λ (t : Term). is_between (low +ℤ pos place) (low +ℤ pos last) (f t)) xs
    → sum ≡ count_by (λ (t : Term). is_between (low +ℤ pos place) ((low +ℤ pos (last + 1)) -ℤ pos 1) (f t)) xs
reached_next f xs low place last sum is =
    let same : (low +ℤ pos last) ≡ ((low +ℤ pos (last + 1)) -ℤ pos 1) = omega (arith, ints) in
    subst (λ (m : ℤ). sum ≡ count_by (λ (t : Term). is_between (low +ℤ pos place) m (f t)) xs) same is

pub reached_none : (f : Term → ℤ) (xs : List Term) (low : ℤ) (place : ℕ) → 0 ≡ count_by (λ (t : Term). is_between (low +ℤ pos place) ((low +ℤ pos place) -ℤ pos 1) (f t)) xs
reached_none f xs low place = sym (count_empty f (low +ℤ pos place) ((low +ℤ pos place) -ℤ pos 1) xs (omega (arith, ints)))

pub spread_next : (xs : List Term) (ds : List (List (ℤ × ℤ))) (low : ℤ) (place last : ℕ) → ((u : ℕ) → place ≤ u → u < last → IsSpread xs ds (low +ℤ pos place) (low +ℤ pos u)) → IsSpread xs ds (low +ℤ pos place) (low +ℤ pos last)
    → (u : ℕ) → place ≤ u → u < last + 1 → IsSpread xs ds (low +ℤ pos place) (low +ℤ pos u)
spread_next xs ds low place last before here = λ u from to. elim (cases_eq u last) [
  | inl e ↦ subst (λ (v : ℕ). IsSpread xs ds (low +ℤ pos place) (low +ℤ pos v)) (sym e) here
  | inr ne ↦ before u from (below_or_same u last to ne)
]

-- the same from the last number on
pub seen_next : (xs : List Term) (ds : List (List (ℤ × ℤ))) (low : ℤ) (width back : ℕ) → back < width → ((v : ℕ) → (width - back) ≤ v → v < width → IsSeenAt xs ds (low +ℤ pos v)) → IsSeenAt xs ds (low +ℤ pos ((width - 1) - back))
    → (v : ℕ) → (width - (back + 1)) ≤ v → v < width → IsSeenAt xs ds (low +ℤ pos v)
seen_next xs ds low width back more before here = λ v from to. elim (cases_eq v ((width - 1) - back)) [
  | inl e ↦ subst (λ (u : ℕ). IsSeenAt xs ds (low +ℤ pos u)) (sym e) here
  | inr ne ↦ before v (omega (arith, from, ne, more)) to
]

pub excess_next : (xs : List Term) (ds : List (List (ℤ × ℤ))) (low high excess next : ℤ) (width back ends : ℕ) → back < width → ends ≡ count_by (ends_at ds (low +ℤ pos ((width - 1) - back))) xs → IsExcess xs ds (low +ℤ pos (width - back)) high next
    → pos ends ≤ℤ (excess +ℤ pos 1) → (next +ℤ pos ends) ≤ℤ (excess +ℤ pos 1) → IsExcess xs ds (low +ℤ pos ((width - 1) - back)) high excess
excess_next xs ds low high excess next width back ends more is after alone both =
    let moved : (low +ℤ pos (width - back)) ≡ ((low +ℤ pos ((width - 1) - back)) +ℤ pos 1) = omega (arith, ints, more) in
    excess_more xs ds (low +ℤ pos ((width - 1) - back)) high excess next ends is (subst (λ (n : ℤ). IsExcess xs ds n high next) moved after) alone both

pub excess_moved : (xs : List Term) (ds : List (List (ℤ × ℤ))) (low high excess : ℤ) (width back : ℕ) → back < width → IsExcess xs ds (low +ℤ pos ((width - 1) - back)) high excess → IsExcess xs ds (low +ℤ pos (width - (back + 1))) high excess
excess_moved xs ds low high excess width back more is =
    let same : (low +ℤ pos ((width - 1) - back)) ≡ (low +ℤ pos (width - (back + 1))) = omega (arith, ints, more) in
    subst (λ (n : ℤ). IsExcess xs ds n high excess) same is

-- a place of the span
pub place_within : (low high : ℤ) (place width : ℕ) → IsWidth low high width → place < width → (low +ℤ pos place) ≤ℤ high
place_within low high place width is below = let behind = is.behind (is.some (omega (arith, below))) in omega (arith, ints, behind, below)
