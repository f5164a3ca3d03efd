-- Lists of changed variables.
use Rattle.std.proofs.Common.{◌≡◌, ◌⊎◌, ℕ, ◌<◌, ◌≤◌, List, [], ◌∷◌, ◌++◌, refl, sym, arith, length, true, false, nat_eq, ◌||◌, inl, inr, cond, drop, length-append}
use Rattle.std.specs.List.{AllByRecursion, IsDistinct, list_any}
use Rattle.std.proofs.lemmas.List.{drop-append-le}
use Rattle.std.proofs.lemmas.Map.Keys.{IsDistinct-cons}
use Rattle.std.proofs.lemmas.Map.Steps.{length-le_from_distinct_below}
use Rattle.fz_sets.proofs.Lists.{all_both}
use Rattle.fz_prop.specs.Stores.{IsListed, AreListedOnce, with_listed}

pub listed_before : (xs ys : List ℕ) (v : ℕ) → IsListed xs v → IsListed (xs ++ ys) v
listed_before [] ys v is = absurd is
listed_before (x ∷ xs) ys v is = elim is [ inl h ↦ inl h | inr h ↦ inr (listed_before xs ys v h) ]

pub listed_last : (xs : List ℕ) (v : ℕ) → IsListed (xs ++ v ∷ []) v
listed_last [] v = inl refl
listed_last (x ∷ xs) v = inr (listed_last xs v)

pub listed_still : (n v u : ℕ) (xs : List ℕ) → IsListed xs u → IsListed (with_listed n v xs) u
listed_still n v u xs is = elim (nat_eq n 0) as (λ b. IsListed (cond b (xs ++ v ∷ []) xs) u) [ true ↦ listed_before xs (v ∷ []) u is | false ↦ is ]

pub listed_now : (n v : ℕ) (xs : List ℕ) → (0 < n → IsListed xs v) → IsListed (with_listed n v xs) v
listed_now n v xs listed = elim (nat_eq n 0) as (λ b. nat_eq n 0 ≡ b → IsListed (cond b (xs ++ v ∷ []) xs) v) [
  | true ↦ λ e. listed_last xs v
  | false ↦ λ e. listed (grind arith)
] refl

pub all_listed : (P : ℕ → Type 0) (n v : ℕ) (xs : List ℕ) → P v → AllByRecursion P xs → AllByRecursion P (with_listed n v xs)
all_listed P n v xs here all = elim (nat_eq n 0) as (λ b. AllByRecursion P (cond b (xs ++ v ∷ []) xs)) [ true ↦ all_both P xs (v ∷ []) all (here, tt) | false ↦ all ]

pub drop_listed : (h n v : ℕ) (xs : List ℕ) → h ≤ length xs → drop h (with_listed n v xs) ≡ with_listed n v (drop h xs)
drop_listed h n v xs within = elim (nat_eq n 0) as (λ b. drop h (cond b (xs ++ v ∷ []) xs) ≡ cond b (drop h xs ++ v ∷ []) (drop h xs)) [
  | true ↦ drop-append-le h xs (v ∷ []) within
  | false ↦ refl
]

pub length_listed : (n v : ℕ) (xs : List ℕ) → length xs ≤ length (with_listed n v xs)
length_listed n v xs = elim (nat_eq n 0) as (λ b. length xs ≤ length (cond b (xs ++ v ∷ []) xs)) [ true ↦ omega (arith, length-append xs (v ∷ [])) | false ↦ omega arith ]

-- whatever is listed was before, or is the last
before_or_last : (xs : List ℕ) (v u : ℕ) → IsListed (xs ++ v ∷ []) u → IsListed xs u ⊎ (v ≡ u)
before_or_last [] v u (inl same) = inr same
before_or_last [] v u (inr none) = absurd none
before_or_last (x ∷ xs) v u (inl same) = inl (inl same)
before_or_last (x ∷ xs) v u (inr more) = elim (before_or_last xs v u more) [ inl h ↦ inl (inr h) | inr h ↦ inr h ]

pub listed_or_same : (n v u : ℕ) (xs : List ℕ) → IsListed (with_listed n v xs) u → IsListed xs u ⊎ (v ≡ u)
listed_or_same n v u xs = elim (nat_eq n 0) as (λ b. IsListed (cond b (xs ++ v ∷ []) xs) u → IsListed xs u ⊎ (v ≡ u)) [ true ↦ before_or_last xs v u | false ↦ λ h. inl h ]

once_more : (xs : List ℕ) (v : ℕ) → (IsListed xs v → ⊥) → AreListedOnce xs → AreListedOnce (xs ++ v ∷ [])
once_more [] v not once = ((λ none. none), tt)
once_more (x ∷ xs) v not once = (
  (λ twice. elim (before_or_last xs v x twice) [ inl h ↦ once.0 h | inr h ↦ not (inl (sym h)) ]),
  once_more xs v (λ h. not (inr h)) once.1,
)

pub once_listed : (n v : ℕ) (xs : List ℕ) → (IsListed xs v → 0 < n) → AreListedOnce xs → AreListedOnce (with_listed n v xs)
once_listed n v xs marked once = elim (nat_eq n 0) as (λ b. nat_eq n 0 ≡ b → AreListedOnce (cond b (xs ++ v ∷ []) xs)) [
  | true ↦ λ e. once_more xs v (λ h. let some = marked h in grind arith) once
  | false ↦ λ e. once
] refl

-- so no more are listed than there are variables
others_of : (v : ℕ) (xs : List ℕ) → (IsListed xs v → ⊥) → AllByRecursion (λ (u : ℕ). nat_eq v u ≡ false) xs
others_of v [] not = tt
others_of v (x ∷ xs) not = ((elim (nat_eq v x) as (λ b. nat_eq v x ≡ b → b ≡ false) [ true ↦ λ e. absurd (not (inl (grind arith))) | false ↦ λ e. refl ] refl), others_of v xs (λ h. not (inr h)))

distinct_of : (xs : List ℕ) → AreListedOnce xs → IsDistinct nat_eq xs
unfolding IsDistinct
distinct_of [] once = tt
distinct_of (x ∷ xs) once = IsDistinct-cons nat_eq x xs (others_of x xs once.0) (distinct_of xs once.1)

member_below : (xs : List ℕ) (n q : ℕ) → AllByRecursion (λ v. v < n) xs → list_any (nat_eq q) xs ≡ true → q < n
member_below [] n q all is = absurd (cc (is))
member_below (x ∷ xs) n q all is = elim (nat_eq q x) as (λ b. nat_eq q x ≡ b → (b || list_any (nat_eq q) xs) ≡ true → q < n) [
  | true ↦ λ e h. (let low = all.0 in let same : q ≡ x = grind (arith, e) in omega (arith, low, same))
  | false ↦ λ e h. member_below xs n q all.1 h
] refl is

pub few_listed : (xs : List ℕ) (n : ℕ) → AreListedOnce xs → AllByRecursion (λ v. v < n) xs → length xs ≤ n
few_listed xs n once all = length-le_from_distinct_below xs n (distinct_of xs once) (λ q is. member_below xs n q all is)
