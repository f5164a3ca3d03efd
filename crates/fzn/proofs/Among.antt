-- Each declared assignment is among them all.
use Rattle.std.proofs.Common.{◌≡◌, ℕ, zero, suc, ◌+◌, ◌<◌, ◌≤◌, List, [], ◌∷◌, ◌++◌, ◌⊎◌, inl, inr, refl, ap, arith, map, subst}
use Rattle.std.specs.Prelude.{ℤ, pos, ◌+ℤ◌, ◌-ℤ◌, nat_abs}
use Rattle.std.specs.List.{flat_map, range_with_len}
use Rattle.std.proofs.lemmas.Bool.{cases_lt}
use Rattle.std.proofs.lemmas.Int.{ints}
use Rattle.fz_sets.specs.Sets.{IsInSet, IsInRange, range_size}
use Rattle.fz_spec.specs.Instance.{Variable, AreDeclared}
use Rattle.fz_tree.specs.Measure.{numbers_of, numbers_in, all_declared}

abbrev pub IsAmong : {X : Type 0} → X → List X → Type 0
IsAmong x [] = ⊥
IsAmong x (y ∷ ys) = (x ≡ y) ⊎ IsAmong x ys

among_left : {X : Type 0} (x : X) (xs ys : List X) → IsAmong x xs → IsAmong x (xs ++ ys)
among_left x [] ys h = absurd h
among_left x (z ∷ zs) ys (inl h) = inl h
among_left x (z ∷ zs) ys (inr h) = inr (among_left x zs ys h)

among_right : {X : Type 0} (x : X) (xs ys : List X) → IsAmong x ys → IsAmong x (xs ++ ys)
among_right x [] ys h = h
among_right x (z ∷ zs) ys h = inr (among_right x zs ys h)

among_map : {X Y : Type 0} (f : X → Y) (x : X) (xs : List X) → IsAmong x xs → IsAmong (f x) (map f xs)
among_map f x [] h = absurd h
among_map f x (y ∷ ys) (inl h) = inl (ap f h)
among_map f x (y ∷ ys) (inr h) = inr (among_map f x ys h)

among_flat : {X Y : Type 0} (f : X → List Y) (x : X) (y : Y) (xs : List X) → IsAmong x xs → IsAmong y (f x) → IsAmong y (flat_map f xs)
among_flat f x y [] h k = absurd h
among_flat {X} {Y} f x y (z ∷ zs) (inl h) k = among_left y (f z) (flat_map f zs) (subst (λ (w : X). IsAmong y (f w)) h k)
among_flat f x y (z ∷ zs) (inr h) k = among_right y (f z) (flat_map f zs) (among_flat f x y zs h k)

among_from : (a n k : ℕ) → (k ≡ a) ⊎ (a < k) → k < a + suc n → (a + 1 ≤ k → k < a + 1 + n → IsAmong k (range_with_len (a + 1) n)) → IsAmong k (range_with_len a (suc n))
among_from a n k (inl is) high below = inl is
among_from a n k (inr above) high below = inr (below (omega (arith, above)) (omega (arith, high)))

at_or_above : (a k : ℕ) → a ≤ k → (k ≡ a) ⊎ (a < k)
at_or_above a k low = elim (cases_lt a k) [ inl above ↦ inr above | inr other ↦ inl (omega (arith, low, other)) ]

among_range : (n a k : ℕ) → a ≤ k → k < a + n → IsAmong k (range_with_len a n)
among_range zero a k low high = absurd (omega (arith, low, high))
among_range (suc n) a k low high = among_from a n k (at_or_above a k low) high (λ l h. among_range n (a + 1) k l h)

among_numbers : (r : ℤ × ℤ) (x : ℤ) → IsInRange r x → IsAmong x (numbers_of r)
among_numbers r x h =
    let k : ℕ = nat_abs (x -ℤ r.0) in
    let is : r.0 +ℤ pos k ≡ x = omega (arith, ints, h.0) in
    let within : k < 0 + range_size r = omega (arith, ints, h.0, h.1) in
    subst (λ (y : ℤ). IsAmong y (numbers_of r)) is (among_map (λ (n : ℕ). r.0 +ℤ pos n) k (range_with_len 0 (range_size r)) (among_range (range_size r) 0 k (omega arith) within))

among_set : (set : List (ℤ × ℤ)) (x : ℤ) → IsInSet set x → IsAmong x (numbers_in set)
among_set [] x h = absurd h
among_set (r ∷ rs) x (inl h) = among_left x (numbers_of r) (numbers_in rs) (among_numbers r x h)
among_set (r ∷ rs) x (inr h) = among_right x (numbers_of r) (numbers_in rs) (among_set rs x h)

pub declared_among : (vs : List Variable) (a : List ℤ) → AreDeclared vs a → IsAmong a (all_declared vs)
declared_among [] [] h = inl refl
declared_among [] (x ∷ xs) h = absurd h
declared_among (v ∷ vs) [] h = absurd h
declared_among (v ∷ vs) (x ∷ xs) h =
    among_flat (λ (y : ℤ). map (λ (b : List ℤ). y ∷ b) (all_declared vs)) x (x ∷ xs) (numbers_in v.set) (among_set v.set x h.0)
    (among_map (λ (b : List ℤ). x ∷ b) xs (all_declared vs) (declared_among vs xs h.1))
