-- Lists that point back to one another are as long.
use Rattle.std.proofs.Common.{◌≡◌, ℕ, zero, suc, ◌+◌, ◌<◌, ◌≤◌, List, [], ◌∷◌, inl, inr, refl, ap, arith, length, pos}
use Rattle.std.specs.Prelude.{ℤ, slice_get, Some}
use Rattle.std.proofs.lemmas.Int.{ints}
use Rattle.std.proofs.lemmas.List.{length-map}
use Rattle.std.proofs.lemmas.Option.{slice_get_within, slice_get_cases}
use Rattle.fz_sets.proofs.Lists.{some_is}
use Rattle.fz_spec.specs.declared.term.Term.{Term}
use Rattle.fz_spec.specs.Constraints.{term_value, term_values}
use Rattle.fz_spec.specs.Truth.{PointBack}
use Rattle.fz_inverse.specs.Pointing.{AreInverseAt}

-- ---- a list without the number at a place

abbrev without : ℕ → List ℤ → List ℤ
without j [] = []
without zero (x ∷ xs) = xs
without (suc j) (x ∷ xs) = x ∷ without j xs

length_without : (j : ℕ) (xs : List ℤ) → j < length xs → suc (length (without j xs)) ≡ length xs
length_without j [] inside = absurd (omega (arith, inside))
length_without zero (x ∷ xs) inside = refl
length_without (suc j) (x ∷ xs) inside = ap suc (length_without j xs (omega (arith, inside)))

-- what stood at another place still stands
still_there : (j i : ℕ) (xs : List ℤ) (x y : ℤ) → slice_get xs j ≡ Some x → slice_get xs i ≡ Some y → (x ≡ y → ⊥) → (k : ℕ) × (slice_get (without j xs) k ≡ Some y)
still_there j i [] x y at_x at_y other = absurd (cc (at_x))
still_there zero zero (z ∷ xs) x y at_x at_y other = absurd (other (some_is x y (cc (at_x, at_y))))
still_there zero (suc i) (z ∷ xs) x y at_x at_y other = (i, at_y)
still_there (suc j) zero (z ∷ xs) x y at_x at_y other = (0, at_y)
still_there (suc j) (suc i) (z ∷ xs) x y at_x at_y other = let w = still_there j i xs x y at_x at_y other in (suc w.0, w.1)

-- ---- a list in which all places from 1 to a last one stand is as long, or longer

places_fit : (n : ℕ) (xs : List ℤ) → ((i : ℕ) → i < n → (k : ℕ) × (slice_get xs k ≡ Some (pos (i + 1)))) → n ≤ length xs
places_fit zero xs all = omega arith
places_fit (suc n) xs all =
    let last = all n (omega arith) in
    let rest = without last.0 xs in
    let fewer : n ≤ length rest = places_fit n rest (λ i below.
    let here = all i (omega (arith, below)) in
    still_there last.0 here.0 xs (pos (n + 1)) (pos (i + 1)) last.1 here.1 (λ same. omega (arith, ints, same, below))) in
    let size = length_without last.0 xs (slice_get_within xs last.0 (pos (n + 1)) last.1) in
    omega (arith, fewer, size)

pointing_fits : (fs gs : List ℤ) → PointBack fs gs → length fs ≤ length gs
pointing_fits fs gs back = places_fit (length fs) gs (λ i below. elim (slice_get_cases fs i).1 [
  | inl here ↦ let p = back i here.0 here.2 in (p.0, p.2)
  | inr past ↦ let end = past.0 in absurd (omega (arith, below, end))
])

-- terms of which there are more on one side are no inverses
pub lengths_same : (fs gs : List Term) (a : List ℤ) → AreInverseAt fs gs a → length fs ≡ length gs
lengths_same fs gs a h =
    let there = pointing_fits (term_values a fs) (term_values a gs) h.there in
    let back = pointing_fits (term_values a gs) (term_values a fs) h.back in
    let size_f = length-map fs (term_value a) in
    let size_g = length-map gs (term_value a) in
    omega (arith, there, back, size_f, size_g)
