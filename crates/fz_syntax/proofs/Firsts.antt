-- The first place that a list of parts has, looked for part by part.
use Rattle.std.proofs.Common.{◌≡◌, ℕ, ◌+◌, ◌<◌, ◌≤◌, zero, suc, List, [], ◌∷◌, ◌++◌, map, take, length, get_or, refl, sym, ap, ◌∙◌, subst, arith, add-one}
use Rattle.std.proofs.lemmas.List.{take_all}
use Rattle.std.specs.Prelude.{Bool, true, false, cond, Option, Some, None, find, flat_map, slice_get}

-- the places of the parts so far
abbrev pub IsNoneSoFar : {X Y : Type 0} → (Y → List ℕ) → (X → Y) → List X → ℕ → Type 0
IsNoneSoFar places f xs i = flat_map places (map f (take i xs)) ≡ []

empty : (ps : List ℕ) → None ≡ slice_get ps 0 → ps ≡ []
empty [] e = refl
empty (p ∷ ps) e = cc

step : {X Y : Type 0} (places : Y → List ℕ) (f : X → Y) (xs : List X) (i : ℕ) (d : X) → i < length xs → places (f (get_or xs i d)) ≡ [] → flat_map places (map f (take i xs)) ≡ [] → flat_map places (map f (take (suc i) xs)) ≡ []
step places f [] i d h e n = absurd (omega (arith, h))
step places f (x ∷ xs) zero d h e n = ap (λ u. u ++ []) e
step places f (x ∷ xs) (suc i) d h e n =
    ap (λ u. u ++ flat_map places (map f (take (suc i) xs))) (front (places (f x)) (flat_map places (map f (take i xs))) n)
    ∙ step places f xs i d (omega (arith, h)) e (back (places (f x)) (flat_map places (map f (take i xs))) n)
  where
    front : (ps qs : List ℕ) → ps ++ qs ≡ [] → ps ≡ []
    front [] qs e = refl
    front (p ∷ ps) qs e = cc

    back : (ps qs : List ℕ) → ps ++ qs ≡ [] → qs ≡ []
    back [] qs e = e
    back (p ∷ ps) qs e = cc

pub none_more : {X Y : Type 0} (places : Y → List ℕ) (f : X → Y) (xs : List X) (i : ℕ) (d : X) → i < length xs → None ≡ slice_get (places (f (get_or xs i d))) 0 → IsNoneSoFar places f xs i → IsNoneSoFar places f xs (i + 1)
none_more places f xs i d h e n = rw add-one (step places f xs i d h (empty (places (f (get_or xs i d))) e) n)

pub front_of : (ps qs : List ℕ) (at : ℕ) → slice_get ps 0 ≡ Some at → slice_get (ps ++ qs) 0 ≡ Some at
front_of [] qs at e = cc
front_of (p ∷ ps) qs at e = e

behind : (ps qs rs : List ℕ) (at : ℕ) → ps ++ qs ≡ [] → (qs ≡ [] → slice_get rs 0 ≡ Some at) → slice_get (ps ++ rs) 0 ≡ Some at
behind [] qs rs at m k = k m
behind (p ∷ ps) qs rs at m k = cc

found_at : {X Y : Type 0} (places : Y → List ℕ) (f : X → Y) (xs : List X) (i : ℕ) (d : X) (at : ℕ) → i < length xs → slice_get (places (f (get_or xs i d))) 0 ≡ Some at → flat_map places (map f (take i xs)) ≡ []
    → slice_get (flat_map places (map f xs)) 0 ≡ Some at
found_at places f [] i d at h e n = absurd (omega (arith, h))
found_at places f (x ∷ xs) zero d at h e n = front_of (places (f x)) (flat_map places (map f xs)) at e
found_at places f (x ∷ xs) (suc i) d at h e n =
    behind (places (f x)) (flat_map places (map f (take i xs))) (flat_map places (map f xs)) at n (λ m. found_at places f xs i d at (omega (arith, h)) e m)

pub found : {X Y : Type 0} (places : Y → List ℕ) (f : X → Y) (xs : List X) (i : ℕ) (d : X) (at : ℕ) → i < length xs → Some at ≡ slice_get (places (f (get_or xs i d))) 0 → IsNoneSoFar places f xs i
    → Some at ≡ slice_get (flat_map places (map f xs)) 0
found places f xs i d at h e n = sym (found_at places f xs i d at h (sym e) n)

pub none_found : {X Y : Type 0} (places : Y → List ℕ) (f : X → Y) (xs : List X) (i : ℕ) → length xs ≤ i → IsNoneSoFar places f xs i → None ≡ slice_get (flat_map places (map f xs)) 0
none_found places f xs i h n = ap (λ ps. slice_get ps 0) (sym (subst (λ (ys : List _). flat_map places (map f ys) ≡ []) (all xs i h) n))
  where
    all : {X : Type 0} (xs : List X) (i : ℕ) → length xs ≤ i → take i xs ≡ xs
    all [] zero h = refl
    all [] (suc i) h = refl
    all (x ∷ xs) zero h = absurd (omega (arith, h))
    all (x ∷ xs) (suc i) h = ap (λ ys. x ∷ ys) (all xs i (omega (arith, h)))

-- the same of an element that is read
pub found_item : {X Y : Type 0} (places : Y → List ℕ) (f : X → Y) (xs : List X) (i : ℕ) (x : X) (at : ℕ) → i < length xs → x ≡ get_or xs i x → Some at ≡ slice_get (places (f x)) 0 → IsNoneSoFar places f xs i
    → Some at ≡ slice_get (flat_map places (map f xs)) 0
found_item {X} places f xs i x at h is e n = found places f xs i x at h (subst (λ (y : X). Some at ≡ slice_get (places (f y)) 0) is e) n

pub none_item : {X Y : Type 0} (places : Y → List ℕ) (f : X → Y) (xs : List X) (i : ℕ) (x : X) → i < length xs → x ≡ get_or xs i x → None ≡ slice_get (places (f x)) 0 → IsNoneSoFar places f xs i → IsNoneSoFar places f xs (i + 1)
none_item {X} places f xs i x h is e n = none_more places f xs i x h (subst (λ (y : X). None ≡ slice_get (places (f y)) 0) is e) n

-- ---- the first that passes a test of what elements are mapped to

chosen_not : {Y : Type 0} (b : Bool) (y : Y) (o : Option Y) → cond b (Some y) o ≡ None → (b ≡ false) × (o ≡ None)
chosen_not true y o e = cc
chosen_not false y o e = (refl, e)

none_step : {X Y : Type 0} (p : Y → Bool) (f : X → Y) (xs : List X) (i : ℕ) (d : X) → i < length xs → p (f (get_or xs i d)) ≡ false → find p (map f (take i xs)) ≡ None → find p (map f (take (suc i) xs)) ≡ None
none_step p f [] i d h e n = absurd (omega (arith, h))
none_step p f (x ∷ xs) zero d h e n = ap (λ b. cond b (Some (f x)) None) e
none_step p f (x ∷ xs) (suc i) d h e n =
    let c = chosen_not (p (f x)) (f x) (find p (map f (take i xs))) n in
    ap (λ b. cond b (Some (f x)) (find p (map f (take (suc i) xs)))) c.0 ∙ none_step p f xs i d (omega (arith, h)) e c.1

first_step : {X Y : Type 0} (p : Y → Bool) (f : X → Y) (xs : List X) (i : ℕ) (d : X) → i < length xs → p (f (get_or xs i d)) ≡ true → find p (map f (take i xs)) ≡ None → find p (map f xs) ≡ Some (f (get_or xs i d))
first_step p f [] i d h e n = absurd (omega (arith, h))
first_step p f (x ∷ xs) zero d h e n = ap (λ b. cond b (Some (f x)) (find p (map f xs))) e
first_step p f (x ∷ xs) (suc i) d h e n =
    let c = chosen_not (p (f x)) (f x) (find p (map f (take i xs))) n in
    ap (λ b. cond b (Some (f x)) (find p (map f xs))) c.0 ∙ first_step p f xs i d (omega (arith, h)) e c.1

pub still_none : {X Y : Type 0} (p : Y → Bool) (f : X → Y) (xs : List X) (i : ℕ) (d : X) → i < length xs → p (f (get_or xs i d)) ≡ false → find p (map f (take i xs)) ≡ None → find p (map f (take (i + 1) xs)) ≡ None
still_none p f xs i d h e n = rw add-one (none_step p f xs i d h e n)

pub first_found : {X Y : Type 0} (p : Y → Bool) (f : X → Y) (xs : List X) (i : ℕ) (d : X) → i < length xs → p (f (get_or xs i d)) ≡ true → find p (map f (take i xs)) ≡ None → Some (f (get_or xs i d)) ≡ find p (map f xs)
first_found p f xs i d h e n = sym (first_step p f xs i d h e n)

-- the same of an element that is read
pub passes_not : {X Y : Type 0} (p : Y → Bool) (f : X → Y) (xs : List X) (i : ℕ) (x : X) → i < length xs → x ≡ get_or xs i x → p (f x) ≡ false → find p (map f (take i xs)) ≡ None → find p (map f (take (i + 1) xs)) ≡ None
passes_not p f xs i x h is e n = still_none p f xs i x h (ap (λ y. p (f y)) (sym is) ∙ e) n

pub passes_first : {X Y : Type 0} (p : Y → Bool) (f : X → Y) (xs : List X) (i : ℕ) (x : X) → i < length xs → x ≡ get_or xs i x → p (f x) ≡ true → find p (map f (take i xs)) ≡ None → Some (f x) ≡ find p (map f xs)
passes_first p f xs i x h is e n = ap (λ y. Some (f y)) is ∙ first_found p f xs i x h (ap (λ y. p (f y)) (sym is) ∙ e) n

pub passes_none : {X Y : Type 0} (p : Y → Bool) (f : X → Y) (xs : List X) (i : ℕ) → length xs ≤ i → find p (map f (take i xs)) ≡ None → None ≡ find p (map f xs)
passes_none {X} p f xs i h n = sym (subst (λ (ys : List X). find p (map f ys) ≡ None) (take_all i xs h) n)
