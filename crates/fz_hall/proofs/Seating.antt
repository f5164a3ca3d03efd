-- Places that have a number of their own each: no interval is crowded, and who has its number in a full one is confined to it.
use Rattle.std.proofs.Common.{◌≡◌, ◌≢◌, inl, inr, ℕ, zero, suc, ◌+◌, ◌≤◌, List, [], ◌∷◌, ◌++◌, ◌∙◌, refl, sym, ap, subst, arith, map, take, length, get_or, ◌<◌}
use Rattle.std.specs.Prelude.{ℤ, pos, negsuc, ◌+ℤ◌, ◌≤ℤ◌, ◌<ℤ◌, Bool, true, count_by, slice_get, Some}
use Rattle.std.specs.List.{AllByRecursion}
use Rattle.std.specs.Int.{int_max}
use Rattle.std.specs.List.Sorted.{IsPermutation}
use Rattle.std.proofs.lemmas.Int.{ints}
use Rattle.std.proofs.lemmas.Bool.{cases_eq}
use Rattle.std.proofs.lemmas.Option.{slice_get-get_or}
use Rattle.std.proofs.lemmas.List.{map_more, take_more}
use Rattle.std.proofs.lemmas.List.Elements.{All-from_recursion, recursion_from_All}
use Rattle.std.proofs.lemmas.List.Sorted.{All-permutation, IsPermutation-sym, sum_by-IsPermutation}
use Rattle.fz_sets.proofs.Lists.{all_at, all_map, all_both, some_is}
use Rattle.fz_spec.specs.Truth.{AreDifferent}
use Rattle.fz_strength.specs.Differences.{interval_size, is_between}
use Rattle.fz_strength.proofs.Spreads.{count_le, count_back}
use Rattle.fz_hall.specs.declared.interval.Interval.{Interval}
use Rattle.fz_hall.specs.declared.seats.Seat.{Seat}
use Rattle.fz_hall.specs.declared.tops.Top.{Top}
use Rattle.fz_hall.specs.Lefts.{is_within}
use Rattle.fz_hall.specs.Seats.{AreClearBelow, left, IsOwn, AreSeated, IsFilled, IsTop, AreTops, IsPassed, ArePassed, nobody}
use Rattle.fz_hall.proofs.Crowding.{bit, count_more, both_le, both_from, few_between}

pub count_map : {X Y : Type 0} (p : Y → Bool) (f : X → Y) (xs : List X) → count_by p (map f xs) ≡ count_by (λ x. p (f x)) xs
count_map p f [] = refl
count_map p f (x ∷ xs) = count_more p (f x) (map f xs) ∙ ap (λ (n : ℕ). bit (p (f x)) + n) (count_map p f xs) ∙ sym (count_more (λ y. p (f y)) x xs)

pub same_interval : (l m : Interval) → l.low ≡ m.low → l.high ≡ m.high → l ≡ m
same_interval l m p q = λ i. record { low = p i; high = q i }

pub mapped_more : {X Y : Type 0} (f : X → Y) (xs : List X) (k : ℕ) (d : X) (old new : List Y) (y : Y) → k < length xs → old ≡ map f (take k xs) → y ≡ f (get_or xs k d) → new ≡ old ++ y ∷ [] → new ≡ map f (take (k + 1) xs)
mapped_more f xs k d old new y within before here is =
    is ∙ ap (λ l. l ++ y ∷ []) before ∙ ap (λ z. map f (take k xs) ++ z ∷ []) here ∙ sym (map_more f xs k d within)

pub nat_of : (d : ℤ) → pos 0 ≤ℤ d → (n : ℕ) × (d ≡ pos n)
nat_of (pos n) h = (n, refl)
nat_of (negsuc n) h = absurd (omega (arith, ints, h))

pub width_of : (low high : ℤ) → low ≤ℤ high → (n : ℕ) × (interval_size low high ≡ pos n)
width_of low high order = nat_of (interval_size low high) (omega (arith, ints, order))

-- ---- one more place

-- it has a number below all of them
pub seated_more : (ss : List Seat) (s : Seat) → AreSeated ss → IsOwn s → AllByRecursion (λ (r : Seat). s.number <ℤ r.number) ss → AreSeated (ss ++ s ∷ [])
seated_more [] s seated own below = (own, tt, tt)
seated_more (r ∷ ss) s seated own below = (seated.0, all_both (λ (q : Seat). q.number <ℤ r.number) ss (s ∷ []) seated.1 (below.0, tt), seated_more ss s seated.2 own below.1)

pub all_above : (low high : ℤ) (ss : List Seat) → low <ℤ high → AllByRecursion (λ (r : Seat). high ≤ℤ r.number) ss → AllByRecursion (λ (r : Seat). low <ℤ r.number) ss
all_above low high [] more all = tt
all_above low high (s ∷ ss) more all = (let from = all.0 in omega (arith, ints, more, from), all_above low high ss more all.1)

pub all_from : (low high : ℤ) (ss : List Seat) → low ≤ℤ high → AllByRecursion (λ (r : Seat). high ≤ℤ r.number) ss → AllByRecursion (λ (r : Seat). low ≤ℤ r.number) ss
all_from low high [] more all = tt
all_from low high (s ∷ ss) more all = (let from = all.0 in omega (arith, ints, more, from), all_from low high ss more all.1)

pub seated_step : (ss : List Seat) (k : ℕ) (before n : ℤ) → k < length ss → AreSeated (take k ss) → AllByRecursion (λ (r : Seat). before ≤ℤ r.number) (take k ss) → IsOwn (get_or ss k nobody)
    → n ≡ (get_or ss k nobody).number → n <ℤ before → AreSeated (take (k + 1) ss) × AllByRecursion (λ (r : Seat). n ≤ℤ r.number) (take (k + 1) ss)
seated_step ss k before n within seated from own is below =
    let s = get_or ss k nobody in
    let more = take_more ss k nobody within in (
      subst AreSeated (sym more) (seated_more (take k ss) s seated own (all_above s.number before (take k ss) (omega (arith, ints, is, below)) from)),
      subst (AllByRecursion (λ (r : Seat). n ≤ℤ r.number)) (sym more) (all_both (λ (r : Seat). n ≤ℤ r.number) (take k ss) (s ∷ []) (all_from n before (take k ss) (omega (arith, ints, below)) from) (omega (arith, ints, is), tt)),
    )

-- ---- few in an interval

abbrev number : Seat → ℤ
number s = s.number

unlike_all : (n : ℤ) (ss : List Seat) → AllByRecursion (λ (r : Seat). r.number <ℤ n) ss → AllByRecursion (λ (r : Seat). n ≢ number r) ss
unlike_all n [] all = tt
unlike_all n (r ∷ ss) all = ((λ e. let below = all.0 in omega (arith, ints, e, below)), unlike_all n ss all.1)

different_of : (ss : List Seat) → AreSeated ss → AreDifferent (map number ss)
different_of [] seated = tt
different_of (s ∷ ss) seated = (all_map (λ (n : ℤ). number s ≢ n) number ss (unlike_all (number s) ss seated.1), different_of ss seated.2)

seated_own : (ss : List Seat) → AreSeated ss → AllByRecursion IsOwn ss
seated_own [] seated = tt
seated_own (s ∷ ss) seated = (seated.0, seated_own ss seated.2)

confined_own : (low high : ℤ) (s : Seat) → IsOwn s → is_within low high s.left ≡ true → is_between low high s.number ≡ true
confined_own low high s own h =
    let both = both_le low s.left.low s.left.high high h in
    let from = both.0 in
    let to = both.1 in
    let own_from = own.from in
    let own_to = own.to in
    both_from low s.number s.number high (omega (arith, ints, from, own_from)) (omega (arith, ints, to, own_to))

all_own : (low high : ℤ) (ss : List Seat) → AreSeated ss → AllByRecursion (λ (s : Seat). is_within low high s.left ≡ true → is_between low high s.number ≡ true) ss
all_own low high [] seated = tt
all_own low high (s ∷ ss) seated = ((λ h. confined_own low high s seated.0 h), all_own low high ss seated.2)

few_numbers : (n : ℕ) (low high : ℤ) (ss : List Seat) → AreSeated ss → (high +ℤ pos 1) ≤ℤ (low +ℤ pos n) → count_by (λ (s : Seat). is_between low high s.number) ss ≤ n
few_numbers n low high ss seated size =
    let few = few_between n low high (map number ss) size (different_of ss seated) in
    let same : count_by (is_between low high) (map number ss) ≡ count_by (λ (s : Seat). is_between low high s.number) ss = count_map (is_between low high) number ss in
    omega (arith, few, same)

seats_few : (ss : List Seat) → AreSeated ss → (low high : ℤ) → low ≤ℤ high → pos (count_by (λ (s : Seat). is_within low high s.left) ss) ≤ℤ interval_size low high
seats_few ss seated low high order =
    let w = width_of low high order in
    let size = w.1 in
    let few = few_numbers w.0 low high ss seated (omega (arith, ints, size)) in
    let less = count_le (λ (s : Seat). is_within low high s.left) (λ (s : Seat). is_between low high s.number) ss (all_own low high ss seated) in
    rw size (omega (arith, ints, few, less))

full_confined : (ss : List Seat) → AreSeated ss → (low high : ℤ) → low ≤ℤ high → IsFilled ss low high → AllByRecursion (λ (s : Seat). is_between low high s.number ≡ true → is_within low high s.left ≡ true) ss
full_confined ss seated low high order full =
    let w = width_of low high order in
    let size = w.1 in
    let few = few_numbers w.0 low high ss seated (omega (arith, ints, size)) in
    let as_many : pos (count_by (λ (s : Seat). is_within low high s.left) ss) ≡ pos w.0 = full ∙ size in
    count_back (λ (s : Seat). is_within low high s.left) (λ (s : Seat). is_between low high s.number) ss (all_own low high ss seated) (omega (arith, ints, few, as_many))

seat_confined : (ss : List Seat) (i : ℕ) (s : Seat) → AreSeated ss → slice_get ss i ≡ Some s → (low high : ℤ) → low ≤ℤ high → IsFilled ss low high → is_between low high s.number ≡ true
    → is_within low high s.left ≡ true
seat_confined ss i s seated at low high order full inside =
    all_at (λ (r : Seat). is_between low high r.number ≡ true → is_within low high r.left ≡ true) ss i s (full_confined ss seated low high order full) at inside

-- ---- tops

-- the element that code reads
pub read_at : {X : Type 0} (xs : List X) (i : ℕ) (x : X) → i < length xs → x ≡ get_or xs i x → slice_get xs i ≡ Some x
read_at xs i x within at = slice_get-get_or xs i x within ∙ ap Some (sym at)

pub top_own : (ss : List Seat) (i : ℕ) (s : Seat) → AreSeated ss → slice_get ss i ≡ Some s → IsTop ss s s.left.high
top_own ss i s seated at = λ low high order full inside. (both_le low s.left.low s.left.high high (seat_confined ss i s seated at low high order full inside)).1

pub top_more : (ss : List Seat) (s r : Seat) (top other : ℤ) → IsTop ss s top → IsTop ss r other → s.number ≤ℤ r.number → r.number ≤ℤ top → IsTop ss s other
top_more ss s r top other is more from to = λ low high order full inside.
    let first = (both_le low s.number s.number high inside).0 in
    let last = is low high order full inside in
    more low high order full (both_from low r.number r.number high (omega (arith, ints, first, from)) (omega (arith, ints, last, to)))

max_le : (a b h : ℤ) → a ≤ℤ h → b ≤ℤ h → int_max a b ≤ℤ h
max_le a b h first second = grind (arith, ints)

pub top_max : (ss : List Seat) (s : Seat) (top other : ℤ) → IsTop ss s top → IsTop ss s other → IsTop ss s (int_max top other)
top_max ss s top other one two = λ low high order full inside. max_le top other high (one low high order full inside) (two low high order full inside)

pub no_tops : (ss : List Seat) (ts : List Top) → ts ≡ [] → AreTops ss ts
no_tops ss ts none = λ i s t at_s at_t. absurd (cc (none, at_t))

last_at : {X : Type 0} (xs : List X) (x : X) → slice_get (xs ++ x ∷ []) (length xs) ≡ Some x
last_at [] x = refl
last_at (y ∷ xs) x = last_at xs x

before_last : {X : Type 0} (xs : List X) (x : X) (i : ℕ) (y : X) → i ≢ length xs → slice_get (xs ++ x ∷ []) i ≡ Some y → slice_get xs i ≡ Some y
before_last [] x zero y ne at = absurd (ne refl)
before_last [] x (suc i) y ne at = at
before_last (z ∷ xs) x zero y ne at = at
before_last (z ∷ xs) x (suc i) y ne at = before_last xs x i y (λ e. ne (ap suc e)) at

pub tops_more : (ss : List Seat) (ts : List Top) (t : Top) → length ts < length ss → AreTops ss ts → IsTop ss (get_or ss (length ts) nobody) t.number → AreTops ss (ts ++ t ∷ [])
tops_more ss ts t within tops here = λ i s u at_s at_u. elim (cases_eq i (length ts)) [
  | inl e ↦
      let same_s : get_or ss (length ts) nobody ≡ s = some_is _ s (sym (slice_get-get_or ss (length ts) nobody within) ∙ ap (slice_get ss) (sym e) ∙ at_s) in
      let same_t : t ≡ u = some_is t u (sym (last_at ts t) ∙ ap (slice_get (ts ++ t ∷ [])) (sym e) ∙ at_u) in
      subst (λ (v : Top). IsTop ss s v.number) same_t (subst (λ (r : Seat). IsTop ss r t.number) same_s here)
  | inr ne ↦ tops i s u at_s (before_last ts t i u ne at_u)
]

pub passed_by : (ss : List Seat) (i : ℕ) (s r : Seat) (top : ℤ) → AreSeated ss → slice_get ss i ≡ Some s → IsTop ss r top → r.number ≡ s.left.low → s.number ≤ℤ top → IsPassed ss s
passed_by ss i s r top seated at is begins to = λ low high order full inside.
    let first = (both_le low s.left.low s.left.low high inside).0 in
    let last = is low high order full (subst (λ (n : ℤ). is_between low high n ≡ true) (sym begins) inside) in
    let from = (all_at IsOwn ss i s (seated_own ss seated) at).from in
    seat_confined ss i s seated at low high order full (both_from low s.number s.number high (omega (arith, ints, first, from)) (omega (arith, ints, last, to)))

-- ---- all intervals

passed_in : (ss rs : List Seat) (low high : ℤ) → low ≤ℤ high → IsFilled ss low high → AllByRecursion (IsPassed ss) rs
    → AllByRecursion (λ (s : Seat). is_between low high s.left.low ≡ true → is_within low high s.left ≡ true) rs
passed_in ss [] low high order full passed = tt
passed_in ss (r ∷ rs) low high order full passed = (passed.0 low high order full, passed_in ss rs low high order full passed.1)

pub clear_below : (ss : List Seat) → AreSeated ss → ArePassed ss → AreClearBelow (map left ss)
clear_below ss seated passed = λ low high order.
    let same : count_by (is_within low high) (map left ss) ≡ count_by (λ (s : Seat). is_within low high s.left) ss = count_map (is_within low high) left ss in
    record {
      few = subst (λ (n : ℕ). pos n ≤ℤ interval_size low high) (sym same) (seats_few ss seated low high order);
      clear = λ full. all_map (λ (l : Interval). is_between low high l.low ≡ true → is_within low high l ≡ true) left ss (passed_in ss ss low high order (sym (ap pos same) ∙ full) passed);
    }

pub clear_permuted : (ls ms : List Interval) → IsPermutation ls ms → AreClearBelow ms → AreClearBelow ls
clear_permuted ls ms moved h = λ low high order.
    let P : Interval → Type 0 = λ (l : Interval). is_between low high l.low ≡ true → is_within low high l ≡ true in
    let same : count_by (is_within low high) ms ≡ count_by (is_within low high) ls = sum_by-IsPermutation (λ (l : Interval). bit (is_within low high l)) ls ms moved in
    let is = h low high order in
    record {
      few = subst (λ (n : ℕ). pos n ≤ℤ interval_size low high) same is.few;
      clear = λ full. recursion_from_All P ls (All-permutation P ms ls (IsPermutation-sym ls ms moved) (All-from_recursion P ms (is.clear (ap pos same ∙ full))));
    }
