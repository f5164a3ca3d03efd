-- Terms of which no interval has too many: what counts of least and of greatest numbers show.
use Rattle.std.proofs.Common.{◌≡◌, ◌≢◌, ◌⊎◌, inl, inr, ℕ, zero, suc, ◌+◌, ◌≤◌, ◌<◌, List, [], ◌∷◌, ◌∙◌, refl, sym, ap, subst, arith}
use Rattle.std.specs.Prelude.{ℤ, pos, ◌+ℤ◌, ◌-ℤ◌, ◌≤ℤ◌, ◌<ℤ◌, int_le, ◌&&◌, Bool, true, false, not, cond, count_by, negsuc, slice_get, Some}
use Rattle.std.specs.List.{AllByRecursion}
use Rattle.std.specs.Ordering.{int_eq}
use Rattle.std.proofs.lemmas.Bool.Decides.{Decides-int_eq}
use Rattle.std.proofs.lemmas.Int.{ints}
use Rattle.std.proofs.lemmas.List.Sums.{sum_by-cons}
use Rattle.fz_sets.proofs.Lists.{all_at}
use Rattle.fz_dom.specs.Shape.{least, greatest}
use Rattle.fz_spec.specs.declared.term.Term.{Term}
use Rattle.fz_strength.specs.Domains.{term_set}
use Rattle.fz_strength.specs.Differences.{AreSpread, IsClear, IsSpread, confined, interval_size, is_between, is_confined}

abbrev pub bit : Bool → ℕ
bit b = cond b 1 0

pub count_more : {X : Type 0} (p : X → Bool) (x : X) (xs : List X) → count_by p (x ∷ xs) ≡ bit (p x) + count_by p xs
count_more p x xs = sum_by-cons (λ y. bit (p y)) x xs

pub both_le : (a b x y : ℤ) → (int_le a b && int_le x y) ≡ true → (a ≤ℤ b) × (x ≤ℤ y)
both_le a b x y h = grind (arith, ints)

pub both_from : (a b x y : ℤ) → a ≤ℤ b → x ≤ℤ y → (int_le a b && int_le x y) ≡ true
both_from a b x y h k = grind (arith, ints)

not_true : (b : Bool) → (b ≡ true → ⊥) → b ≡ false
not_true true h = absurd (h refl)
not_true false h = refl

true_not_false : (b : Bool) → b ≡ true → b ≡ false → ⊥
true_not_false true h k = absurd (cc (k))
true_not_false false h k = absurd (cc (h))

bit_le : (b c : Bool) → (b ≡ true → c ≡ true) → bit b ≤ bit c
bit_le true c h = rw (h refl) (omega arith)
bit_le false c h = omega arith

-- ---- counts

pub count_le : {X : Type 0} (p q : X → Bool) (xs : List X) → AllByRecursion (λ (x : X). p x ≡ true → q x ≡ true) xs → count_by p xs ≤ count_by q xs
count_le p q [] implied = let none : count_by p [] ≡ count_by q [] = refl in omega (arith, none)
count_le p q (x ∷ xs) implied =
    let one = count_more p x xs in
    let other = count_more q x xs in
    let here = bit_le (p x) (q x) implied.0 in
    let rest = count_le p q xs implied.1 in
    omega (arith, one, other, here, rest)

bit_back : (b c : Bool) (m n : ℕ) → (b ≡ true → c ≡ true) → m ≤ n → bit c + n ≤ bit b + m → (c ≡ true → b ≡ true) × (n ≤ m)
bit_back true c m n implied less few = ((λ h. refl), let same = ap bit (implied refl) in omega (arith, same, few))
bit_back false true m n implied less few = absurd (omega (arith, less, few))
bit_back false false m n implied less few = ((λ h. h), omega (arith, few))

-- as many have both of two properties, the second of which follows from the first: the first follows from the second
pub count_back : {X : Type 0} (p q : X → Bool) (xs : List X) → AllByRecursion (λ (x : X). p x ≡ true → q x ≡ true) xs → count_by q xs ≤ count_by p xs → AllByRecursion (λ (x : X). q x ≡ true → p x ≡ true) xs
count_back p q [] implied few = tt
count_back p q (x ∷ xs) implied few =
    let one = count_more p x xs in
    let other = count_more q x xs in
    let both = bit_back (p x) (q x) (count_by p xs) (count_by q xs) implied.0 (count_le p q xs implied.1) (omega (arith, one, other, few)) in
    (both.0, count_back p q xs implied.1 both.1)

-- ---- least and greatest numbers in an interval

-- the least number of each isn't above its greatest one
abbrev pub AreOrdered : List (List (ℤ × ℤ)) → List Term → Type 0
AreOrdered ds xs = AllByRecursion (λ (t : Term). least (term_set ds t) ≤ℤ greatest (term_set ds t)) xs

abbrev pub begins : List (List (ℤ × ℤ)) → ℤ → ℤ → Term → Bool
begins ds low high t = is_between low high (least (term_set ds t))

abbrev pub ends : List (List (ℤ × ℤ)) → ℤ → ℤ → Term → Bool
ends ds low high t = is_between low high (greatest (term_set ds t))

confined_begins : (low high a b : ℤ) → a ≤ℤ b → (int_le low a && int_le b high) ≡ true → is_between low high a ≡ true
confined_begins low high a b order h =
    let both = both_le low a b high h in
    let from = both.0 in
    let to = both.1 in
    both_from low a a high from (omega (arith, ints, order, to))

confined_ends : (low high a b : ℤ) → a ≤ℤ b → (int_le low a && int_le b high) ≡ true → is_between low high b ≡ true
confined_ends low high a b order h =
    let both = both_le low a b high h in
    let from = both.0 in
    let to = both.1 in
    both_from low b b high (omega (arith, ints, order, from)) to

all_begin : (ds : List (List (ℤ × ℤ))) (low high : ℤ) (xs : List Term) → AreOrdered ds xs → AllByRecursion (λ (t : Term). is_confined ds low high t ≡ true → begins ds low high t ≡ true) xs
all_begin ds low high [] ordered = tt
all_begin ds low high (x ∷ xs) ordered = ((λ h. confined_begins low high (least (term_set ds x)) (greatest (term_set ds x)) ordered.0 h), all_begin ds low high xs ordered.1)

all_end : (ds : List (List (ℤ × ℤ))) (low high : ℤ) (xs : List Term) → AreOrdered ds xs → AllByRecursion (λ (t : Term). is_confined ds low high t ≡ true → ends ds low high t ≡ true) xs
all_end ds low high [] ordered = tt
all_end ds low high (x ∷ xs) ordered = ((λ h. confined_ends low high (least (term_set ds x)) (greatest (term_set ds x)) ordered.0 h), all_end ds low high xs ordered.1)

all_clear : (ds : List (List (ℤ × ℤ))) (low high : ℤ) (xs : List Term) → AllByRecursion (λ (t : Term). begins ds low high t ≡ true → is_confined ds low high t ≡ true) xs
    → AllByRecursion (λ (t : Term). ends ds low high t ≡ true → is_confined ds low high t ≡ true) xs → AllByRecursion (IsClear ds low high) xs
all_clear ds low high [] b e = tt
all_clear ds low high (x ∷ xs) b e = (
  (λ other. (not_true (begins ds low high x) (λ h. true_not_false (is_confined ds low high x) (b.0 h) other), not_true (ends ds low high x) (λ h. true_not_false (is_confined ds low high x) (e.0 h) other))),
  all_clear ds low high xs b.1 e.1,
)

-- fewer begin in an interval, or end in it, than it has numbers; or no more than these do both
pub spread_by_few : (xs : List Term) (ds : List (List (ℤ × ℤ))) (low high : ℤ) (size : ℕ) → AreOrdered ds xs → interval_size low high ≡ pos size
    → ((count_by (begins ds low high) xs < size) ⊎ (count_by (ends ds low high) xs < size)) ⊎ ((count_by (begins ds low high) xs ≤ size) × (count_by (ends ds low high) xs ≤ size)) → IsSpread xs ds low high
spread_by_few xs ds low high size ordered is (inl (inl fewer)) =
    let most = count_le (is_confined ds low high) (begins ds low high) xs (all_begin ds low high xs ordered) in
    record {
      few = rw is (omega (arith, ints, most, fewer));
      clear = λ full. (let e : pos (confined xs ds low high) ≡ pos size = full ∙ is in absurd (omega (arith, ints, e, most, fewer)));
    }
spread_by_few xs ds low high size ordered is (inl (inr fewer)) =
    let most = count_le (is_confined ds low high) (ends ds low high) xs (all_end ds low high xs ordered) in
    record {
      few = rw is (omega (arith, ints, most, fewer));
      clear = λ full. (let e : pos (confined xs ds low high) ≡ pos size = full ∙ is in absurd (omega (arith, ints, e, most, fewer)));
    }
spread_by_few xs ds low high size ordered is (inr few) =
    let begin = all_begin ds low high xs ordered in
    let end = all_end ds low high xs ordered in
    let most = count_le (is_confined ds low high) (begins ds low high) xs begin in
    let begun = few.0 in
    let ended = few.1 in
    record {
      few = rw is (omega (arith, ints, most, begun));
      clear = λ full.
          let e : pos (confined xs ds low high) ≡ pos size = full ∙ is in
          all_clear ds low high xs (count_back (is_confined ds low high) (begins ds low high) xs begin (omega (arith, ints, e, begun)))
          (count_back (is_confined ds low high) (ends ds low high) xs end (omega (arith, ints, e, ended)));
    }

-- ---- from one number to the one before it

pub count_none : {X : Type 0} (p : X → Bool) (xs : List X) → AllByRecursion (λ (x : X). p x ≡ true → ⊥) xs → count_by p xs ≡ 0
count_none p [] none = refl
count_none p (x ∷ xs) none =
    let one = count_more p x xs in
    let here = ap bit (not_true (p x) none.0) in
    let nothing : bit false ≡ 0 = refl in
    let rest = count_none p xs none.1 in
    omega (arith, one, here, nothing, rest)

bit_either : (b c d : Bool) → (b ≡ true → (c ≡ true) ⊎ (d ≡ true)) → bit b ≤ bit c + bit d
bit_either true c d either = elim (either refl) [
  | inl h ↦ let one : bit c ≡ 1 = ap bit h in omega (arith, one)
  | inr h ↦ let one : bit d ≡ 1 = ap bit h in omega (arith, one)
]
bit_either false c d either = omega arith

pub count_either : {X : Type 0} (p q r : X → Bool) (xs : List X) → AllByRecursion (λ (x : X). p x ≡ true → (q x ≡ true) ⊎ (r x ≡ true)) xs → count_by p xs ≤ count_by q xs + count_by r xs
count_either p q r [] either = let none : count_by p [] ≡ 0 = refl in omega (arith, none)
count_either p q r (x ∷ xs) either =
    let one = count_more p x xs in
    let two = count_more q x xs in
    let three = count_more r x xs in
    let here = bit_either (p x) (q x) (r x) either.0 in
    let rest = count_either p q r xs either.1 in
    omega (arith, one, two, three, here, rest)

size_down : (low high : ℤ) → interval_size low high ≡ (interval_size (low +ℤ pos 1) high +ℤ pos 1)
size_down low high = omega (arith, ints)

size_one : (n : ℤ) → interval_size n n ≡ pos 1
size_one n = omega (arith, ints)

some_size : (low high : ℤ) → low ≤ℤ high → pos 1 ≤ℤ interval_size low high
some_size low high order = omega (arith, ints, order)

later_confined : (low high a b : ℤ) → a ≢ low → (int_le low a && int_le b high) ≡ true → (int_le (low +ℤ pos 1) a && int_le b high) ≡ true
later_confined low high a b other h =
    let both = both_le low a b high h in
    let from = both.0 in
    both_from (low +ℤ pos 1) a b high (omega (arith, ints, from, other)) both.1

-- no place has its least number here
abbrev pub NoneBegins : List (List (ℤ × ℤ)) → ℤ → List Term → Type 0
NoneBegins ds low xs = AllByRecursion (λ (t : Term). least (term_set ds t) ≢ low) xs

none_within : (low a b : ℤ) → a ≤ℤ b → a ≢ low → (int_le low a && int_le b low) ≡ true → ⊥
none_within low a b order other h =
    let both = both_le low a b low h in
    let from = both.0 in
    let to = both.1 in
    omega (arith, ints, order, other, from, to)

all_out : (ds : List (List (ℤ × ℤ))) (low : ℤ) (xs : List Term) → AreOrdered ds xs → NoneBegins ds low xs → AllByRecursion (λ (t : Term). is_confined ds low low t ≡ true → ⊥) xs
all_out ds low [] ordered none = tt
all_out ds low (x ∷ xs) ordered none = ((λ h. none_within low (least (term_set ds x)) (greatest (term_set ds x)) ordered.0 none.0 h), all_out ds low xs ordered.1 none.1)

pub spread_at_none : (xs : List Term) (ds : List (List (ℤ × ℤ))) (low : ℤ) → AreOrdered ds xs → NoneBegins ds low xs → IsSpread xs ds low low
spread_at_none xs ds low ordered none =
    let zero = count_none (is_confined ds low low) xs (all_out ds low xs ordered none) in
    let size = size_one low in
    record {
      few = omega (arith, ints, zero, size);
      clear = λ full. absurd (omega (arith, ints, full, zero, size));
    }

-- ---- past a number that fixed terms alone begin with

int_cases : (a b : ℤ) → (a ≡ b) ⊎ (a ≢ b)
int_cases a b = elim (int_eq a b) as (λ (c : Bool). int_eq a b ≡ c → (a ≡ b) ⊎ (a ≢ b)) [
  | true ↦ λ h. inl ((Decides-int_eq a b).0 h)
  | false ↦ λ h. inr (λ e. true_not_false (int_eq a b) ((Decides-int_eq a b).1 e) h)
] refl

out_of_both : (low high x : ℤ) → is_between low low x ≡ false → is_between (low +ℤ pos 1) high x ≡ false → is_between low high x ≡ false
out_of_both low high x here next = not_true (is_between low high x) (λ h.
    let both = both_le low x x high h in
    let from = both.0 in
    let to = both.1 in
    elim (int_cases x low) [
      | inl same ↦ true_not_false (is_between low low x) (both_from low x x low (omega (arith, ints, same)) (omega (arith, ints, same))) here
      | inr other ↦ true_not_false (is_between (low +ℤ pos 1) high x) (both_from (low +ℤ pos 1) x x high (omega (arith, ints, from, other)) to) next
    ])

-- each place that has its least number here has its greatest here
abbrev pub FixedBegin : List (List (ℤ × ℤ)) → ℤ → List Term → Type 0
FixedBegin ds low xs = AllByRecursion (λ (t : Term). least (term_set ds t) ≡ low → greatest (term_set ds t) ≡ low) xs

here_or_later : (low high a b : ℤ) → (a ≡ low → b ≡ low) → (int_le low a && int_le b high) ≡ true → ((int_le low a && int_le b low) ≡ true) ⊎ ((int_le (low +ℤ pos 1) a && int_le b high) ≡ true)
here_or_later low high a b fixed h =
    let both = both_le low a b high h in
    let from = both.0 in
    elim (int_cases a low) [
      | inl same ↦ inl (let at = fixed same in both_from low a b low (omega (arith, ints, same)) (omega (arith, ints, at)))
      | inr other ↦ inr (later_confined low high a b other h)
    ]

all_here_or_later : (ds : List (List (ℤ × ℤ))) (low high : ℤ) (xs : List Term) → FixedBegin ds low xs
    → AllByRecursion (λ (t : Term). is_confined ds low high t ≡ true → (is_confined ds low low t ≡ true) ⊎ (is_confined ds (low +ℤ pos 1) high t ≡ true)) xs
all_here_or_later ds low high [] fixed = tt
all_here_or_later ds low high (x ∷ xs) fixed = ((λ h. here_or_later low high (least (term_set ds x)) (greatest (term_set ds x)) fixed.0 h), all_here_or_later ds low high xs fixed.1)

-- what is clear of both parts of an interval is clear of it
clear_twice : (low high a b : ℤ) → ((int_le low a && int_le b low) ≡ false → (is_between low low a ≡ false) × (is_between low low b ≡ false))
    → ((int_le (low +ℤ pos 1) a && int_le b high) ≡ false → (is_between (low +ℤ pos 1) high a ≡ false) × (is_between (low +ℤ pos 1) high b ≡ false)) → low <ℤ high
    → (int_le low a && int_le b high) ≡ false → (is_between low high a ≡ false) × (is_between low high b ≡ false)
clear_twice low high a b here next more other =
    let not_here : (int_le low a && int_le b low) ≡ false =
    not_true (int_le low a && int_le b low) (λ h. (let both = both_le low a b low h in let to = both.1 in true_not_false (int_le low a && int_le b high) (both_from low a b high both.0 (omega (arith, ints, to, more))) other)) in
    let not_next : (int_le (low +ℤ pos 1) a && int_le b high) ≡ false =
    not_true (int_le (low +ℤ pos 1) a && int_le b high)
    (λ h. (let both = both_le (low +ℤ pos 1) a b high h in let from = both.0 in true_not_false (int_le low a && int_le b high) (both_from low a b high (omega (arith, ints, from)) both.1) other)) in
    let first = here not_here in
    let second = next not_next in
    (out_of_both low high a first.0 second.0, out_of_both low high b first.1 second.1)

all_clear_twice : (ds : List (List (ℤ × ℤ))) (low high : ℤ) (xs : List Term) → low <ℤ high → AllByRecursion (IsClear ds low low) xs → AllByRecursion (IsClear ds (low +ℤ pos 1) high) xs → AllByRecursion (IsClear ds low high) xs
all_clear_twice ds low high [] more here next = tt
all_clear_twice ds low high (x ∷ xs) more here next = (clear_twice low high (least (term_set ds x)) (greatest (term_set ds x)) here.0 next.0 more, all_clear_twice ds low high xs more here.1 next.1)

pub spread_past : (xs : List Term) (ds : List (List (ℤ × ℤ))) (low high : ℤ) → low <ℤ high → FixedBegin ds low xs → IsSpread xs ds low low → IsSpread xs ds (low +ℤ pos 1) high → IsSpread xs ds low high
spread_past xs ds low high more fixed here next =
    let most = count_either (is_confined ds low high) (is_confined ds low low) (is_confined ds (low +ℤ pos 1) high) xs (all_here_or_later ds low high xs fixed) in
    let one = here.few in
    let few = next.few in
    let size = size_down low high in
    let unit = size_one low in
    record {
      few = omega (arith, ints, most, one, few, size, unit);
      clear = λ full. all_clear_twice ds low high xs more (here.clear (omega (arith, ints, full, most, one, few, size, unit))) (next.clear (omega (arith, ints, full, most, one, few, size, unit)));
    }

-- ---- all intervals

-- one of these has a property, or none has
pub some_or_none : {X : Type 0} (p : X → Bool) (xs : List X) → ((i : ℕ) × ((x : X) × ((slice_get xs i ≡ Some x) × (p x ≡ true)))) ⊎ AllByRecursion (λ (x : X). p x ≡ false) xs
some_or_none {X = X} p [] = inr tt
some_or_none {X = X} p (x ∷ xs) = elim (p x) as (λ (b : Bool). p x ≡ b → ((i : ℕ) × ((y : X) × ((slice_get (x ∷ xs) i ≡ Some y) × (p y ≡ true)))) ⊎ AllByRecursion (λ (y : X). p y ≡ false) (x ∷ xs)) [
  | true ↦ λ h. inl (0, (x, (refl, h)))
  | false ↦ λ h. elim (some_or_none p xs) [
    | inl some ↦ inl (suc some.0, (some.1.0, some.1.1))
    | inr none ↦ inr (h, none)
  ]
] refl

-- From the least number of each open term no interval has too many, and of each fixed term its own has not.
pub record AreSeen (xs : List Term) (ds : List (List (ℤ × ℤ))) : Type 0 where
  pub wide : (i : ℕ) (t : Term) → slice_get xs i ≡ Some t → least (term_set ds t) ≢ greatest (term_set ds t) → (high : ℤ) → least (term_set ds t) ≤ℤ high → IsSpread xs ds (least (term_set ds t)) high
  pub single : (i : ℕ) (t : Term) → slice_get xs i ≡ Some t → least (term_set ds t) ≡ greatest (term_set ds t) → IsSpread xs ds (least (term_set ds t)) (least (term_set ds t))

abbrev opens : List (List (ℤ × ℤ)) → ℤ → Term → Bool
opens ds low t = int_eq (least (term_set ds t)) low && not (int_eq (greatest (term_set ds t)) low)

abbrev stands : List (List (ℤ × ℤ)) → ℤ → Term → Bool
stands ds low t = int_eq (least (term_set ds t)) low

eq_of : (a b : ℤ) → int_eq a b ≡ true → a ≡ b
eq_of a b h = (Decides-int_eq a b).0 h

eq_to : (a b : ℤ) → a ≡ b → int_eq a b ≡ true
eq_to a b e = (Decides-int_eq a b).1 e

none_stands : (ds : List (List (ℤ × ℤ))) (low : ℤ) (xs : List Term) → AllByRecursion (λ (t : Term). stands ds low t ≡ false) xs → NoneBegins ds low xs
none_stands ds low [] none = tt
none_stands ds low (x ∷ xs) none = ((λ e. true_not_false (stands ds low x) (eq_to (least (term_set ds x)) low e) none.0), none_stands ds low xs none.1)

closed_of : (b c : Bool) → (b && not c) ≡ false → b ≡ true → c ≡ true
closed_of true true h k = refl
closed_of true false h k = absurd (cc (h))
closed_of false c h k = absurd (cc (k))

open_of : (b c : Bool) → (b && not c) ≡ true → (b ≡ true) × (c ≡ false)
open_of true true h = absurd (cc (h))
open_of true false h = (refl, refl)
open_of false c h = absurd (cc (h))

none_opens : (ds : List (List (ℤ × ℤ))) (low : ℤ) (xs : List Term) → AllByRecursion (λ (t : Term). opens ds low t ≡ false) xs → FixedBegin ds low xs
none_opens ds low [] none = tt
none_opens ds low (x ∷ xs) none = (
  (λ e. eq_of (greatest (term_set ds x)) low (closed_of (int_eq (least (term_set ds x)) low) (int_eq (greatest (term_set ds x)) low) none.0 (eq_to (least (term_set ds x)) low e))),
  none_opens ds low xs none.1,
)

spread_at : (xs : List Term) (ds : List (List (ℤ × ℤ))) (low : ℤ) → AreOrdered ds xs → AreSeen xs ds → FixedBegin ds low xs → IsSpread xs ds low low
spread_at xs ds low ordered seen fixed = elim (some_or_none (stands ds low) xs) [
  | inl some ↦
      let t = some.1.0 in
      let at : least (term_set ds t) ≡ low = eq_of (least (term_set ds t)) low some.1.1.1 in
      let end : greatest (term_set ds t) ≡ low = all_at (λ (x : Term). least (term_set ds x) ≡ low → greatest (term_set ds x) ≡ low) xs some.0 t fixed some.1.1.0 at in
      subst (λ (n : ℤ). IsSpread xs ds n n) at (seen.single some.0 t some.1.1.0 (at ∙ sym end))
  | inr none ↦ spread_at_none xs ds low ordered (none_stands ds low xs none)
]

spread_wide : (xs : List Term) (ds : List (List (ℤ × ℤ))) (low : ℤ) (n : ℕ) → AreOrdered ds xs → AreSeen xs ds → ((m : ℤ) → IsSpread xs ds m (m +ℤ pos n)) → IsSpread xs ds low (low +ℤ pos (suc n))
spread_wide xs ds low n ordered seen next =
    let high = low +ℤ pos (suc n) in
    let moved : (low +ℤ pos 1) +ℤ pos n ≡ high = omega (arith, ints) in
    let rest : IsSpread xs ds (low +ℤ pos 1) high = subst (λ (h : ℤ). IsSpread xs ds (low +ℤ pos 1) h) moved (next (low +ℤ pos 1)) in
    elim (some_or_none (opens ds low) xs) [
      | inl some ↦
          let t = some.1.0 in
          let parts = open_of (int_eq (least (term_set ds t)) low) (int_eq (greatest (term_set ds t)) low) some.1.1.1 in
          let at : least (term_set ds t) ≡ low = eq_of (least (term_set ds t)) low parts.0 in
          let wide : least (term_set ds t) ≢ greatest (term_set ds t) = λ e. true_not_false (int_eq (greatest (term_set ds t)) low) (eq_to (greatest (term_set ds t)) low (sym e ∙ at)) parts.1 in
          subst (λ (l : ℤ). IsSpread xs ds l high) at (seen.wide some.0 t some.1.1.0 wide high (omega (arith, ints, at)))
      | inr none ↦
          let fixed = none_opens ds low xs none in
          spread_past xs ds low high (omega (arith, ints)) fixed (spread_at xs ds low ordered seen fixed) rest
    ]

spread_one : (xs : List Term) (ds : List (List (ℤ × ℤ))) (low : ℤ) → AreOrdered ds xs → AreSeen xs ds → IsSpread xs ds low low
spread_one xs ds low ordered seen = elim (some_or_none (opens ds low) xs) [
  | inl some ↦
      let t = some.1.0 in
      let parts = open_of (int_eq (least (term_set ds t)) low) (int_eq (greatest (term_set ds t)) low) some.1.1.1 in
      let at : least (term_set ds t) ≡ low = eq_of (least (term_set ds t)) low parts.0 in
      let wide : least (term_set ds t) ≢ greatest (term_set ds t) = λ e. true_not_false (int_eq (greatest (term_set ds t)) low) (eq_to (greatest (term_set ds t)) low (sym e ∙ at)) parts.1 in
      subst (λ (l : ℤ). IsSpread xs ds l low) at (seen.wide some.0 t some.1.1.0 wide low (omega (arith, ints, at)))
  | inr none ↦ spread_at xs ds low ordered seen (none_opens ds low xs none)
]

spread_of : (xs : List Term) (ds : List (List (ℤ × ℤ))) → AreOrdered ds xs → AreSeen xs ds → (n : ℕ) (low : ℤ) → IsSpread xs ds low (low +ℤ pos n)
spread_of xs ds ordered seen zero low = let same : low ≡ low +ℤ pos 0 = omega (arith, ints) in subst (λ (h : ℤ). IsSpread xs ds low h) same (spread_one xs ds low ordered seen)
spread_of xs ds ordered seen (suc n) low = spread_wide xs ds low n ordered seen (λ m. spread_of xs ds ordered seen n m)

gap_of : (x y d : ℤ) → d ≡ (y -ℤ x) → x ≤ℤ y → (n : ℕ) × (y ≡ (x +ℤ pos n))
gap_of x y (pos n) e to = (n, omega (arith, ints, e))
gap_of x y (negsuc n) e to = absurd (omega (arith, ints, e, to))

width : (low high : ℤ) → low ≤ℤ high → (n : ℕ) × (low +ℤ pos n ≡ high)
width low high order = let g = gap_of low high (high -ℤ low) refl order in (g.0, sym g.1)

-- no interval has too many
pub all_spread : (xs : List Term) (ds : List (List (ℤ × ℤ))) → AreOrdered ds xs → AreSeen xs ds → AreSpread xs ds
all_spread xs ds ordered seen = λ low high order. (let w = width low high order in subst (λ (h : ℤ). IsSpread xs ds low h) w.1 (spread_of xs ds ordered seen w.0 low))
