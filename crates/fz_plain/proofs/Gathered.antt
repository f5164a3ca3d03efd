-- A sum whose equal terms are added up is the same.
use Rattle.std.proofs.Common.{◌≡◌, ℕ, suc, ◌+◌, ◌≤◌, ℤ, pos, negsuc, ◌+ℤ◌, ◌-ℤ◌, ◌*ℤ◌, nat_abs, List, [], ◌∷◌, ◌++◌, ◌∙◌, refl, arith, length}
use Rattle.std.proofs.lemmas.Int.{ints}
use Rattle.std.proofs.lemmas.List.{length_push}
use Rattle.std.proofs.lemmas.List.Sums.{sum_by-cons}
use Rattle.std.proofs.lemmas.List.Elements.{All-from_recursion, recursion_from_All}
use Rattle.std.proofs.lemmas.List.Sorted.{All-permutation, length_permutation, sum_by-IsPermutation}
use Rattle.std.specs.Prelude.{sum_by}
use Rattle.std.specs.List.{AllByRecursion}
use Rattle.std.specs.List.Sorted.{IsPermutation}
use Rattle.fz_spec.specs.declared.term.Term.{Term}
use Rattle.fz_spec.specs.declared.term.Term.TheVariants.{Num, Var}
use Rattle.fz_spec.specs.Constraints.{term_value, term_values}
use Rattle.fz_spec.specs.Instance.{Variable}
use Rattle.fz_spec.specs.Truth.{weighted_sum}
use Rattle.fz_strength.specs.Sums.{left_factors, left_terms}
use Rattle.fz_says.specs.Fits.{IsKnown}
use Rattle.fz_plain.specs.Entries.{AreAddedUp, AreNumbersAdded, IsEntryOf, entries, entry_sum, number_count, number_sum, size_of}
use Rattle.fz_plain.specs.Plain.{AreLarge, HasTwice, IsGathered}
use Rattle.fz_plain.proofs.Merging.{all_known_more, number_more, sum_more}
use Rattle.fz_plain.proofs.Twice.{rising_once}

-- ---- a permutation

abbrev up_part : ℤ → ℕ
up_part (pos n) = n
up_part (negsuc n) = 0

abbrev down_part : ℤ → ℕ
down_part (pos n) = 0
down_part (negsuc n) = suc n

parts : (z : ℤ) → z ≡ (pos (up_part z) -ℤ pos (down_part z))
parts (pos n) = omega (arith, ints)
parts (negsuc n) = omega (arith, ints)

abbrev product : List ℤ → ℕ × ℤ → ℤ
product a e = e.1 *ℤ term_value a (Var e.0)

abbrev ups : List ℤ → ℕ × ℤ → ℕ
ups a e = up_part (product a e)

abbrev downs : List ℤ → ℕ × ℤ → ℕ
downs a e = down_part (product a e)

by_parts : (a : List ℤ) (es : List (ℕ × ℤ)) → entry_sum a es ≡ (pos (sum_by (ups a) es) -ℤ pos (sum_by (downs a) es))
by_parts a [] = omega (arith, ints)
by_parts a (e ∷ es) =
    let p : (e.1 *ℤ term_value a (Var e.0)) ≡ (pos (ups a e) -ℤ pos (downs a e)) = parts (product a e) in
    let rest = by_parts a es in
    let u = sum_by-cons (ups a) e es in
    let d = sum_by-cons (downs a) e es in
    omega (arith, ints, p, rest, u, d)

permuted_sum : (a : List ℤ) (es fs : List (ℕ × ℤ)) → IsPermutation es fs → entry_sum a fs ≡ entry_sum a es
permuted_sum a es fs p =
    let u = sum_by-IsPermutation (ups a) es fs p in
    let d = sum_by-IsPermutation (downs a) es fs p in
    let x = by_parts a es in
    let y = by_parts a fs in
    omega (arith, ints, u, d, x, y)

permuted_known : (vs : List Variable) (es fs : List (ℕ × ℤ)) → IsPermutation es fs → AllByRecursion (IsEntryOf vs) es → AllByRecursion (IsEntryOf vs) fs
permuted_known vs es fs p all = recursion_from_All (IsEntryOf vs) fs (All-permutation (IsEntryOf vs) es fs p (All-from_recursion (IsEntryOf vs) es all))

-- ---- what a sum is made of

split_sum : (a : List ℤ) (ks : List ℤ) (ts : List Term) → weighted_sum ks (term_values a ts) ≡ (entry_sum a (entries ks ts) +ℤ number_sum ks ts)
split_sum a [] ts = omega (arith, ints)
split_sum a (k ∷ ks) [] = omega (arith, ints)
split_sum a (k ∷ ks) (Num n ∷ ts) = let rest = split_sum a ks ts in omega (arith, ints, rest)
split_sum a (k ∷ ks) (Var v ∷ ts) = let rest = split_sum a ks ts in omega (arith, ints, rest)

split_count : (ks : List ℤ) (ts : List Term) → length ks ≡ length ts → length (entries ks ts) + number_count ts ≡ length ts
split_count [] [] size = refl
split_count [] (t ∷ ts) size = absurd (omega (arith, size))
split_count (k ∷ ks) [] size = absurd (omega (arith, size))
split_count (k ∷ ks) (Num n ∷ ts) size = let rest = split_count ks ts (omega (arith, size)) in omega (arith, rest)
split_count (k ∷ ks) (Var v ∷ ts) size = let rest = split_count ks ts (omega (arith, size)) in omega (arith, rest)

entries_known : (vs : List Variable) (ks : List ℤ) (ts : List Term) → AllByRecursion (IsKnown vs) ts → AllByRecursion (IsEntryOf vs) (entries ks ts)
entries_known vs [] ts all = tt
entries_known vs (k ∷ ks) [] all = tt
entries_known vs (k ∷ ks) (Num n ∷ ts) all = entries_known vs ks ts all.1
entries_known vs (k ∷ ks) (Var v ∷ ts) all = (all.0, entries_known vs ks ts all.1)

entries_small : (ks : List ℤ) (ts : List Term) → sum_by size_of (entries ks ts) ≤ sum_by nat_abs ks
entries_small [] ts = omega arith
entries_small (k ∷ ks) [] = omega arith
entries_small (k ∷ ks) (Num n ∷ ts) = let rest = entries_small ks ts in let s = sum_by-cons nat_abs k ks in omega (arith, rest, s)
entries_small (k ∷ ks) (Var v ∷ ts) = let rest = entries_small ks ts in let s = sum_by-cons nat_abs k ks in let t = sum_by-cons size_of (v, k) (entries ks ts) in omega (arith, rest, s, t)

left_numbers : (ks : List ℤ) (ts : List Term) (last : Term) → number_sum (left_factors ks last) (left_terms ts last) ≡ number_sum ks ts
left_numbers ks ts (Num n) = refl
left_numbers ks ts (Var v) = refl

left_count : (ts : List Term) (last : Term) → number_count (left_terms ts last) ≡ number_count ts
left_count ts (Num n) = refl
left_count ts (Var v) = refl

left_known : (vs : List Variable) (ts : List Term) (last : Term) → AllByRecursion (IsKnown vs) (left_terms ts last) → AllByRecursion (IsKnown vs) ts
left_known vs ts (Num n) all = all
left_known vs ts (Var v) all = all.1

left_size : (ks : List ℤ) (ts : List Term) (last : Term) → length ks ≡ length ts → length (left_factors ks last) ≡ length (left_terms ts last)
left_size ks ts (Num n) size = size
left_size ks ts (Var v) size = omega (arith, size)

-- ---- the sum

pub sum_large : (ks : List ℤ) (ts : List Term) (last : Term) (fs : List (ℕ × ℤ)) → IsPermutation (entries (left_factors ks last) (left_terms ts last)) fs → 2147483648 ≤ sum_by size_of fs → AreLarge (left_factors ks last)
sum_large ks ts last fs p large =
    let same = sum_by-IsPermutation size_of (entries (left_factors ks last) (left_terms ts last)) fs p in
    let small = entries_small (left_factors ks last) (left_terms ts last) in
    omega (arith, same, small, large)

pub sum_gathered : (ks : List ℤ) (ts : List Term) (last : Term) (fs : List (ℕ × ℤ)) (ls : List ℤ) (us : List Term) (ms : List ℤ) (ws : List Term) → length ks ≡ length ts
    → IsPermutation (entries (left_factors ks last) (left_terms ts last)) fs → AreAddedUp ls us fs → AreNumbersAdded ks ts ls us ms ws → HasTwice (left_terms ts last)
    → IsGathered (left_factors ks last) (left_terms ts last) ms ws
sum_gathered ks ts last fs ls us ms ws size p added more two =
    let lks = left_factors ks last in
    let lts = left_terms ts last in
    let es = entries lks lts in
    record {
      twice = two;
      sum = record {
        size = more.size;
        few = let a = more.few in let b = added.few in let c = length_permutation es fs p in let d = split_count lks lts (left_size ks ts last size) in let e = left_count ts last in omega (arith, a, b, c, d, e);
        same = λ a.
            let x = more.same a in
            let y = added.same a in
            let z = permuted_sum a es fs p in
            let s = split_sum a lks lts in
            let n = left_numbers ks ts last in
            omega (arith, ints, x, y, z, s, n);
        known = λ vs all. more.known vs (left_known vs ts last all) (added.known vs (permuted_known vs es fs p (entries_known vs lks lts all)));
      };
      once = rising_once ws (rw more.variables added.rising);
    }

-- ---- numbers are added one by one

pub numbers_none : (ls : List ℤ) (us : List Term) → length ls ≡ length us → AreNumbersAdded [] [] ls us ls us
numbers_none ls us size = record { size = size; few = omega arith; same = λ a. omega (arith, ints); variables = refl; known = λ vs all known. known }

number_sum_more : (ks : List ℤ) (ts : List Term) (k : ℤ) (t : Term) → length ks ≡ length ts → number_sum (ks ++ k ∷ []) (ts ++ t ∷ []) ≡ (number_sum ks ts +ℤ number_sum (k ∷ []) (t ∷ []))
number_sum_more [] [] k t size = omega (arith, ints)
number_sum_more [] (u ∷ ts) k t size = absurd (omega (arith, size))
number_sum_more (j ∷ ks) [] k t size = absurd (omega (arith, size))
number_sum_more (j ∷ ks) (Num n ∷ ts) k t size = let rest = number_sum_more ks ts k t (omega (arith, size)) in omega (arith, ints, rest)
number_sum_more (j ∷ ks) (Var v ∷ ts) k t size = number_sum_more ks ts k t (omega (arith, size))

number_count_more : (ts : List Term) (t : Term) → number_count (ts ++ t ∷ []) ≡ number_count ts + number_count (t ∷ [])
number_count_more [] t = omega arith
number_count_more (Num n ∷ ts) t = let rest = number_count_more ts t in omega (arith, rest)
number_count_more (Var v ∷ ts) t = number_count_more ts t

known_before : (vs : List Variable) (ts : List Term) (t : Term) → AllByRecursion (IsKnown vs) (ts ++ t ∷ []) → AllByRecursion (IsKnown vs) ts × IsKnown vs t
known_before vs [] t all = (tt, all.0)
known_before vs (u ∷ ts) t all = let rest = known_before vs ts t all.1 in ((all.0, rest.0), rest.1)

pub numbers_one : (ks : List ℤ) (ts : List Term) (k n : ℤ) (ls : List ℤ) (us : List Term) (ms : List ℤ) (ws : List Term) → length ks ≡ length ts → AreNumbersAdded ks ts ls us ms ws
    → AreNumbersAdded (ks ++ k ∷ []) (ts ++ Num n ∷ []) ls us (ms ++ k ∷ []) (ws ++ Num n ∷ [])
numbers_one ks ts k n ls us ms ws size is = record {
  size = let s = is.size in let a = length_push ms k in let b = length_push ws (Num n) in omega (arith, s, a, b);
  few = let f = is.few in let b = length_push ws (Num n) in let c = number_count_more ts (Num n) in omega (arith, f, b, c);
  same = λ a. let s = is.same a in let m = sum_more a ms ws k (Num n) is.size in let c = number_sum_more ks ts k (Num n) size in omega (arith, ints, s, m, c);
  variables = number_more ws n ∙ is.variables;
  known = λ vs all known. let b = known_before vs ts (Num n) all in all_known_more vs ws (Num n) (is.known vs b.0 known) b.1;
}

pub numbers_same : (ks : List ℤ) (ts : List Term) (k : ℤ) (v : ℕ) (ls : List ℤ) (us : List Term) (ms : List ℤ) (ws : List Term) → length ks ≡ length ts → AreNumbersAdded ks ts ls us ms ws
    → AreNumbersAdded (ks ++ k ∷ []) (ts ++ Var v ∷ []) ls us ms ws
numbers_same ks ts k v ls us ms ws size is = record {
  size = is.size;
  few = let f = is.few in let c = number_count_more ts (Var v) in omega (arith, f, c);
  same = λ a. let s = is.same a in let c = number_sum_more ks ts k (Var v) size in omega (arith, ints, s, c);
  variables = is.variables;
  known = λ vs all known. is.known vs (known_before vs ts (Var v) all).0 known;
}

pub numbers_other : (ks : List ℤ) (ts : List Term) (k : ℤ) (t : Term) (ls : List ℤ) (us : List Term) (ms : List ℤ) (ws : List Term) → length ks ≡ length ts → ((n : ℤ) → t ≡ Num n → ⊥) → AreNumbersAdded ks ts ls us ms ws
    → AreNumbersAdded (ks ++ k ∷ []) (ts ++ t ∷ []) ls us ms ws
numbers_other ks ts k (Num n) ls us ms ws size none is = absurd (none n refl)
numbers_other ks ts k (Var v) ls us ms ws size none is = numbers_same ks ts k v ls us ms ws size is

pub numbers_here : (ks : List ℤ) (ts : List Term) (k n : ℤ) (t : Term) (ls : List ℤ) (us : List Term) (ms : List ℤ) (ws : List Term) → length ks ≡ length ts → t ≡ Num n → AreNumbersAdded ks ts ls us ms ws
    → AreNumbersAdded (ks ++ k ∷ []) (ts ++ t ∷ []) ls us (ms ++ k ∷ []) (ws ++ t ∷ [])
numbers_here ks ts k n t ls us ms ws size is added = rw is (numbers_one ks ts k n ls us ms ws size added)
