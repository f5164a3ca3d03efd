-- Counts from a place of the cover on.
use Rattle.std.proofs.Common.{◌≡◌, ℕ, ◌+◌, ◌<◌, ◌≤◌, zero, suc, List, [], ◌∷◌, map, drop, length, get_or, arith, refl, sym, ap, ◌∙◌, subst, add-one, pos}
use Rattle.std.proofs.lemmas.List.Sums.{sum_by-cons}
use Rattle.std.specs.Prelude.{ℤ, ◌↔◌, count_by, cond}
use Rattle.std.specs.Ordering.{int_eq}
use Rattle.fz_spec.specs.Truth.{AreCounts, count_of}

-- those from a place on
abbrev pub AreCountsBehind : {X : Type 0} → (X → ℤ) → List ℤ → List ℤ → List X → ℕ → Type 0
AreCountsBehind f xs cover counts i = AreCounts xs (drop i cover) (map f (drop i counts))

pub as_many : {X : Type 0} (f : X → ℤ) (xs cover : List ℤ) (counts : List X) → AreCounts xs cover (map f counts) → length cover ≡ length counts
as_many f xs [] [] h = refl
as_many f xs (value ∷ cover) (count ∷ counts) h = let more = as_many f xs cover counts h.1 in omega (arith, more)
as_many f xs [] (count ∷ counts) h = absurd h
as_many f xs (value ∷ cover) [] h = absurd h

-- of values that are mapped to
pub count_mapped : {X : Type 0} (f : X → ℤ) (value : ℤ) (xs : List X) → count_by (λ (x : X). int_eq (f x) value) xs ≡ count_of value (map f xs)
count_mapped f value [] = refl
count_mapped f value (x ∷ xs) =
    sum_by-cons (λ y. cond (int_eq (f y) value) 1 0) x xs ∙ ap (λ n. cond (int_eq (f x) value) 1 0 + n) (count_mapped f value xs) ∙ sym (sum_by-cons (λ y. cond (int_eq y value) 1 0) (f x) (map f xs))

here : {X : Type 0} (f : X → ℤ) (xs cover : List ℤ) (counts : List X) (i : ℕ) (v : ℤ) (c : X) → i < length cover → length cover ≡ length counts
    → AreCountsBehind f xs cover counts i ↔ ((f (get_or counts i c) ≡ pos (count_of (get_or cover i v) xs)) × AreCountsBehind f xs cover counts (suc i))
here f xs [] counts i v c less same = absurd (omega (arith, less))
here f xs (value ∷ cover) [] i v c less same = absurd (omega (arith, same))
here f xs (value ∷ cover) (count ∷ counts) zero v c less same = (λ h. h, λ h. h)
here f xs (value ∷ cover) (count ∷ counts) (suc i) v c less same = here f xs cover counts i v c (omega (arith, less)) (omega (arith, same))

pub first_count : {X : Type 0} (f : X → ℤ) (xs cover : List ℤ) (counts : List X) (i : ℕ) (v : ℤ) (c : X) → i < length cover → length cover ≡ length counts
    → AreCountsBehind f xs cover counts i → f (get_or counts i c) ≡ pos (count_of (get_or cover i v) xs)
first_count f xs cover counts i v c less same h = ((here f xs cover counts i v c less same).0 h).0

pub next_count : {X : Type 0} (f : X → ℤ) (xs cover : List ℤ) (counts : List X) (i : ℕ) (v : ℤ) (c : X) → i < length cover → length cover ≡ length counts
    → f (get_or counts i c) ≡ pos (count_of (get_or cover i v) xs) → AreCountsBehind f xs cover counts i ↔ AreCountsBehind f xs cover counts (i + 1)
next_count f xs cover counts i v c less same is =
    let both = here f xs cover counts i v c less same in
    (λ h. subst (AreCountsBehind f xs cover counts) (sym (add-one i)) (both.0 h).1, λ h. both.1 (is, subst (AreCountsBehind f xs cover counts) (add-one i) h))

pub none_behind : {X : Type 0} (f : X → ℤ) (xs cover : List ℤ) (counts : List X) (i : ℕ) → length cover ≤ i → length cover ≡ length counts → AreCountsBehind f xs cover counts i
none_behind f xs [] [] zero past same = tt
none_behind f xs [] [] (suc i) past same = tt
none_behind f xs [] (count ∷ counts) i past same = absurd (omega (arith, same))
none_behind f xs (value ∷ cover) [] i past same = absurd (omega (arith, same))
none_behind f xs (value ∷ cover) (count ∷ counts) zero past same = absurd (omega (arith, past))
none_behind f xs (value ∷ cover) (count ∷ counts) (suc i) past same = none_behind f xs cover counts i (omega (arith, past)) (omega (arith, same))
