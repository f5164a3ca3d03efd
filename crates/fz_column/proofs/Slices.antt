-- Places of lists, of parts of lists, and of lists with one element more.
use Rattle.std.proofs.Common.{◌≡◌, ℕ, zero, suc, ◌+◌, ◌-◌, ◌<◌, ◌≤◌, List, [], ◌∷◌, ◌++◌, ◌⊎◌, inl, inr, refl, ap, ◌∙◌, arith, length, take, drop}
use Rattle.std.specs.Prelude.{slice_get, slice_range, Some}
use Rattle.std.proofs.Math.Nat.{min-le_right}
use Rattle.std.proofs.lemmas.List.{length-take, length-drop}

pub get_drop : {X : Type 0} (xs : List X) (s j : ℕ) → slice_get (drop s xs) j ≡ slice_get xs (s + j)
get_drop xs zero j = let e : j ≡ 0 + j = omega arith in ap (slice_get xs) e
get_drop [] (suc s) j = refl
get_drop (x ∷ xs) (suc s) j = let e : suc (s + j) ≡ suc s + j = omega arith in get_drop xs s j ∙ ap (slice_get (x ∷ xs)) e

pub get_take : {X : Type 0} (xs : List X) (n j : ℕ) → j < n → slice_get (take n xs) j ≡ slice_get xs j
get_take xs zero j below = absurd (omega (arith, below))
get_take [] (suc n) zero below = refl
get_take [] (suc n) (suc j) below = refl
get_take (x ∷ xs) (suc n) zero below = refl
get_take (x ∷ xs) (suc n) (suc j) below = get_take xs n j (omega (arith, below))

width_of : (s n : ℕ) → s + n - s ≡ n
width_of s n = omega arith

pub part_get : {X : Type 0} (xs : List X) (s n j : ℕ) → j < n → slice_get (slice_range xs s (s + n)) j ≡ slice_get xs (s + j)
part_get xs s n j below = get_take (drop s xs) (s + n - s) j (omega (arith, below, width_of s n)) ∙ get_drop xs s j

pub part_length : {X : Type 0} (xs : List X) (s n : ℕ) → s + n ≤ length xs → length (slice_range xs s (s + n)) ≡ n
part_length xs s n inside =
    let taken = length-take (s + n - s) (drop s xs) in
    let dropped = length-drop s xs in
    omega (arith, inside, taken, dropped)

-- a part with all its elements lies in the list
pub part_inside : {X : Type 0} (xs : List X) (s n : ℕ) → 0 < n → length (slice_range xs s (s + n)) ≡ n → s + n ≤ length xs
part_inside xs s n some size =
    let taken = length-take (s + n - s) (drop s xs) in
    let dropped = length-drop s xs in
    let few = min-le_right (s + n - s) (length (drop s xs)) in
    omega (arith, some, size, taken, dropped, few)

pub get_last : {X : Type 0} (xs : List X) (x : X) → slice_get (xs ++ x ∷ []) (length xs) ≡ Some x
get_last [] x = refl
get_last (y ∷ ys) x = get_last ys x

pub get_before : {X : Type 0} (xs ys : List X) (k : ℕ) (x : X) → slice_get xs k ≡ Some x → slice_get (xs ++ ys) k ≡ Some x
get_before [] ys k x at = absurd (cc (at))
get_before (z ∷ zs) ys zero x at = at
get_before (z ∷ zs) ys (suc k) x at = get_before zs ys k x at

pub get_more : {X : Type 0} (xs : List X) (x : X) (k : ℕ) (y : X) → slice_get (xs ++ x ∷ []) k ≡ Some y → (slice_get xs k ≡ Some y) ⊎ (y ≡ x)
get_more [] x zero y at = inr (cc (at))
get_more [] x (suc k) y at = absurd (cc (at))
get_more (z ∷ zs) x zero y at = inl at
get_more (z ∷ zs) x (suc k) y at = get_more zs x k y at

pub get_append_left : {X : Type 0} (xs ys : List X) (j : ℕ) → j < length xs → slice_get (xs ++ ys) j ≡ slice_get xs j
get_append_left [] ys j below = absurd (omega (arith, below))
get_append_left (x ∷ xs) ys zero below = refl
get_append_left (x ∷ xs) ys (suc j) below = get_append_left xs ys j (omega (arith, below))
