-- Counting the members of a list that pass a test.
use Rattle.std.proofs.Common.{◌≡◌, ℕ, zero, suc, ◌+◌, ◌≤◌, List, [], ◌∷◌, ◌++◌, ◌⊎◌, inl, inr, refl, ap, ◌∙◌, arith, Bool, true, false, cond, ◌||◌, take, drop, Option, Some, None, drop-drop}
use Rattle.std.specs.List.{list_any, slice_get, count_by}
use Rattle.std.proofs.Math.Seq.{take-add}
use Rattle.std.proofs.lemmas.List.Sums.{sum_by-append, sum_by-cons, sum_by-take-drop}

abbrev pub one_if : Bool → ℕ
one_if b = cond b 1 0

pub cond_add : (b : Bool) (x y : ℕ) → cond b (x + y) 0 ≡ cond b x 0 + cond b y 0
cond_add true x y = refl
cond_add false x y = omega arith

pub cond_zero : (b : Bool) → cond b 0 0 ≡ zero
cond_zero true = refl
cond_zero false = refl

pub count_cons : {X : Type 0} (p : X → Bool) (x : X) (xs : List X) → count_by p (x ∷ xs) ≡ one_if (p x) + count_by p xs
count_cons p x xs = sum_by-cons (λ y. one_if (p y)) x xs

pub count_append : {X : Type 0} (p : X → Bool) (xs ys : List X) → count_by p (xs ++ ys) ≡ count_by p xs + count_by p ys
count_append p xs ys = sum_by-append (λ y. one_if (p y)) xs ys

-- whether the member at a place, if there is one, passes
abbrev pub passes_if_there : {X : Type 0} → (X → Bool) → Option X → Bool
passes_if_there p (Some x) = p x
passes_if_there p None = false

abbrev pub passes_at : {X : Type 0} → (X → Bool) → List X → ℕ → Bool
passes_at p xs i = passes_if_there p (slice_get xs i)

-- the first of a part, and the others
pub count_first : {X : Type 0} (p : X → Bool) (xs : List X) (i k : ℕ) → count_by p (take (suc k) (drop i xs)) ≡ one_if (passes_at p xs i) + count_by p (take k (drop (suc i) xs))
count_first p [] zero zero = refl
count_first p [] zero (suc k) = refl
count_first p [] (suc i) zero = refl
count_first p [] (suc i) (suc k) = refl
count_first p (x ∷ xs) zero k = count_cons p x (take k xs)
count_first p (x ∷ xs) (suc i) k = count_first p xs i k

-- the front of a part, and what follows it
pub count_split : {X : Type 0} (p : X → Bool) (xs : List X) (i n m : ℕ) → count_by p (take (n + m) (drop i xs)) ≡ count_by p (take n (drop i xs)) + count_by p (take m (drop (i + n) xs))
count_split {X} p xs i n m =
    ap (count_by p) (take-add n m (drop i xs)) ∙ count_append p (take n (drop i xs)) (take m (drop n (drop i xs)))
    ∙ ap (λ (ys : List X). count_by p (take n (drop i xs)) + count_by p (take m ys)) (drop-drop n i xs)

-- a part has no more than the whole
pub count_take : {X : Type 0} (p : X → Bool) (xs : List X) (n : ℕ) → count_by p (take n xs) ≤ count_by p xs
count_take p xs n = omega (arith, sum_by-take-drop (λ y. one_if (p y)) xs n)

pub count_drop : {X : Type 0} (p : X → Bool) (xs : List X) (n : ℕ) → count_by p (drop n xs) ≤ count_by p xs
count_drop p xs n = omega (arith, sum_by-take-drop (λ y. one_if (p y)) xs n)

-- ---- whether there is one

any_step : (b any : Bool) (n k : ℕ) → k ≡ one_if b + n → ((any ≡ true) × (1 ≤ n)) ⊎ ((any ≡ false) × (n ≡ 0)) → (((b || any) ≡ true) × (1 ≤ k)) ⊎ (((b || any) ≡ false) × (k ≡ 0))
any_step true any n k e h = inl (refl, omega arith)
any_step false any n k e (inl h) = inl (h.0, omega (arith, h.1))
any_step false any n k e (inr h) = inr (h.0, omega (arith, h.1))

pub any_count : {X : Type 0} (p : X → Bool) (xs : List X) → ((list_any p xs ≡ true) × (1 ≤ count_by p xs)) ⊎ ((list_any p xs ≡ false) × (count_by p xs ≡ 0))
any_count p [] = inr (refl, refl)
any_count {X} p (x ∷ xs) = any_step (p x) (list_any p xs) (count_by p xs) (count_by p (x ∷ xs)) (count_cons p x xs) (any_count p xs)
