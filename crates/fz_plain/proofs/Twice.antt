-- Variables that stand twice among terms.
use Rattle.std.proofs.Common.{◌≡◌, ℕ, zero, suc, ◌+◌, ◌<◌, ◌≤◌, ℤ, pos, Bool, false, List, [], ◌∷◌, refl, subst, arith, length, get_or, slice_index}
use Rattle.std.proofs.lemmas.Int.{ints, by_lt_z}
use Rattle.std.proofs.lemmas.List.Sums.{sum_by-cons}
use Rattle.std.proofs.lemmas.List.Sorted.{sum_by-IsPermutation}
use Rattle.std.specs.List.Sorted.{IsPermutation, IsSorted, IsSortedBy, IsStrictlyIncreasing}
use Rattle.std.specs.Ordering.{is_lt, nat_cmp, int_cmp, ordering_then}
use Rattle.fz_spec.specs.declared.term.Term.{Term}
use Rattle.fz_strength.specs.Events.{variables_of}
use Rattle.fz_plain.specs.Entries.{AreInOrder, AreRising}
use Rattle.fz_plain.specs.Plain.{HasTwice, counts, times}

times_cons : (v x : ℕ) (xs : List ℕ) → times v (x ∷ xs) ≡ counts v x + times v xs
times_cons v x xs = sum_by-cons (counts v) x xs

counts_other : (v x : ℕ) → v < x → counts v x ≡ 0
counts_other v x below = grind (arith, below)

counts_below : (v x : ℕ) → x < v → counts v x ≡ 0
counts_below v x below = grind (arith, below)

counts_most : (v x : ℕ) → counts v x ≤ 1
counts_most v x = grind arith

counts_same : (v : ℕ) → counts v v ≡ 1
counts_same v = grind arith

times_none : (v x : ℕ) (xs : List ℕ) → v ≤ x → AreRising (x ∷ xs) → times v xs ≡ 0
times_none v x [] below rising = refl
times_none v x (y ∷ xs) below rising =
    let up = rising.0 in
    let c = counts_other v y (omega (arith, below, up)) in
    let t = times_cons v y xs in
    let rest = times_none v y xs (omega (arith, below, up)) rising.1 in
    omega (arith, c, t, rest)

-- where each is below the next, none stands twice
pub times_once : (v : ℕ) (xs : List ℕ) → AreRising xs → times v xs ≤ 1
times_once v [] rising = omega arith
times_once v (x ∷ []) rising = let t = times_cons v x [] in let c = counts_most v x in omega (arith, t, c)
times_once v (x ∷ y ∷ xs) rising = by_lt_z (pos v) (pos y)
    (λ lt.
    let c = counts_most v x in
    let t = times_cons v x (y ∷ xs) in
    let u = times_cons v y xs in
    let d = counts_other v y (omega (arith, ints, lt)) in
    let rest = times_none v y xs (omega (arith, ints, lt)) rising.1 in
    omega (arith, c, t, u, d, rest))
    (λ le.
    let up = rising.0 in
    let c = counts_below v x (omega (arith, ints, le, up)) in
    let t = times_cons v x (y ∷ xs) in
    let rest = times_once v (y ∷ xs) rising.1 in
    omega (arith, c, t, rest))

pub rising_of : (xs : List ℕ) → IsStrictlyIncreasing xs → AreRising xs
rising_of [] h = tt
rising_of (x ∷ []) h = tt
rising_of (x ∷ y ∷ xs) h = (
  h 0 (omega arith),
  rising_of (y ∷ xs) (λ k l.
      let e : suc k + 1 ≡ suc (k + 1) = omega arith in
      subst (λ (n : ℕ). slice_index (x ∷ y ∷ xs) (suc k) < slice_index (x ∷ y ∷ xs) n) e (h (suc k) (omega (arith, l)))),
)

-- where a number isn't above the one before it, and they are in order, it stands twice
times_twice : (xs : List ℕ) (k : ℕ) → k + 1 < length xs → slice_index xs k ≡ slice_index xs (k + 1) → 2 ≤ times (slice_index xs k) xs
times_twice [] k inside same = absurd (omega (arith, inside))
times_twice (x ∷ []) k inside same = absurd (omega (arith, inside))
times_twice (x ∷ y ∷ xs) zero inside same =
    let t = times_cons x x (y ∷ xs) in
    let u = times_cons x y xs in
    let c = counts_same x in
    let d : counts x y ≡ 1 = subst (λ (z : ℕ). counts x z ≡ 1) same c in
    omega (arith, t, u, c, d)
times_twice (x ∷ y ∷ xs) (suc k) inside same =
    let e : suc k + 1 ≡ suc (k + 1) = omega arith in
    let here = subst (λ (n : ℕ). slice_index (x ∷ y ∷ xs) (suc k) ≡ slice_index (x ∷ y ∷ xs) n) e same in
    let rest = times_twice (y ∷ xs) k (omega (arith, inside)) here in
    let t = times_cons (slice_index (y ∷ xs) k) x (y ∷ xs) in
    omega (arith, rest, t)

not_below : (a b : ℕ) → is_lt (nat_cmp b a) ≡ false → a ≤ b
not_below a b e = by_lt_z (pos b) (pos a) (λ lt. absurd (grind (arith, ints, e, lt))) (λ le. omega (arith, ints, le))

pub twice_from : (ts : List Term) (xs : List ℕ) → IsPermutation (variables_of ts) xs → IsSorted nat_cmp xs → ((k : ℕ) × (k + 1 < length xs) × (slice_index xs (k + 1) ≤ slice_index xs k)) → HasTwice ts
twice_from ts xs p sorted other =
    let k = other.0 in
    let inside = other.1 in
    let up : slice_index xs k ≤ slice_index xs (k + 1) = not_below (slice_index xs k) (slice_index xs (k + 1)) (sorted k 0 (omega arith) inside) in
    let down = other.2 in
    let two = times_twice xs k inside (omega (arith, up, down)) in
    let same = sum_by-IsPermutation (counts (slice_index xs k)) (variables_of ts) xs p in
    (slice_index xs k, omega (arith, two, same))

pub once_from : (ts : List Term) (xs : List ℕ) → IsPermutation (variables_of ts) xs → IsStrictlyIncreasing xs → HasTwice ts → ⊥
once_from ts xs p rising two =
    let once = times_once two.0 xs (rising_of xs rising) in
    let more = two.1 in
    let same = sum_by-IsPermutation (counts two.0) (variables_of ts) xs p in
    omega (arith, once, more, same)

pub rising_once : (ts : List Term) → AreRising (variables_of ts) → HasTwice ts → ⊥
rising_once ts rising two = let once = times_once two.0 (variables_of ts) rising in let more = two.1 in omega (arith, once, more)

in_order_by_place : (rs : List (ℕ × ℤ)) → ((k : ℕ) → suc k < length rs → (get_or rs k (0, pos 0)).0 ≤ (get_or rs (suc k) (0, pos 0)).0) → AreInOrder rs
in_order_by_place [] h = tt
in_order_by_place (r ∷ []) h = tt
in_order_by_place (r ∷ s ∷ rs) h = (h 0 (omega arith), in_order_by_place (s ∷ rs) (λ k l. h (suc k) (omega (arith, l))))

pub in_order_from_sort : (lt : ℕ × ℤ → ℕ × ℤ → Bool) (rs : List (ℕ × ℤ)) → ((a b : ℕ × ℤ) → lt b a ≡ false → a.0 ≤ b.0) → IsSortedBy lt rs → AreInOrder rs
in_order_from_sort lt rs f h = in_order_by_place rs (λ k l.
    let e : k + 1 ≡ suc k = omega arith in
    let t = h k (0, pos 0) (omega arith) (omega arith) in
    f (get_or rs k (0, pos 0)) (get_or rs (suc k) (0, pos 0)) (subst (λ (n : ℕ). lt (get_or rs n (0, pos 0)) (get_or rs k (0, pos 0)) ≡ false) e t))

-- what a sort of entries says of their variables
pub first_not_above : (a b : ℕ × ℤ) → is_lt (ordering_then (nat_cmp b.0 a.0) (int_cmp b.1 a.1)) ≡ false → a.0 ≤ b.0
first_not_above a b e = by_lt_z (pos b.0) (pos a.0) (λ lt. absurd (grind (arith, ints, e, lt))) (λ le. omega (arith, ints, le))
