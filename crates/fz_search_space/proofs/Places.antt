-- Numbers and domains by their places.
use Rattle.std.proofs.Common.{◌≡◌, ◌∙◌, ◌++◌, ℕ, zero, suc, ◌<◌, List, [], ◌∷◌, length, map, take, ◌+◌, ap, ap₂, sym, refl, arith, Some, slice_set, ◌⊎◌, inl, inr}
use Rattle.std.specs.Prelude.{ℤ}
use Rattle.std.specs.List.{slice_get}
use Rattle.fz_dom.specs.Shape.{least}
use Rattle.fz_dom.proofs.Ranges.{least_member, within_limits}
use Rattle.fz_model.specs.Kept.{AreNumbers}
pub use Rattle.fz_strength.proofs.Terms.{number_least, length_least, least_within}
use Rattle.fz_search_space.specs.Spaces.{Alone, AreDomains, dom_at, number_at}

pub same_numbers : (a b : List ℤ) → length a ≡ length b → ((v : ℕ) → v < length a → number_at a v ≡ number_at b v) → a ≡ b
same_numbers [] [] size same = refl
same_numbers [] (y ∷ b) size same = absurd (omega (arith, size))
same_numbers (x ∷ a) [] size same = absurd (omega (arith, size))
same_numbers (x ∷ a) (y ∷ b) size same = ap₂ (λ z c. z ∷ c) (same zero (omega arith)) (same_numbers a b (omega (arith, size)) (λ v h. same (suc v) (omega (arith, h))))

pub same_alone : (ds : List (List (ℤ × ℤ))) (a b : List ℤ) → Alone ds a → Alone ds b → a ≡ b
same_alone ds a b one other = same_numbers a b (one.size ∙ sym other.size) (λ v h.
    let within : v < length ds = rw (← one.size) h in
    ap least (sym (one.alone v within) ∙ other.alone v within))

pub some_at : (xs : List ℤ) (v : ℕ) → v < length xs → slice_get xs v ≡ Some (number_at xs v)
some_at [] v h = absurd (omega (arith, h))
some_at (x ∷ xs) zero h = refl
some_at (x ∷ xs) (suc v) h = some_at xs v (omega (arith, h))

-- one number replaced
pub length_set : (a : List ℤ) (v : ℕ) (x : ℤ) → length (slice_set a v x) ≡ length a
length_set [] v x = refl
length_set (y ∷ a) zero x = refl
length_set (y ∷ a) (suc v) x = ap suc (length_set a v x)

pub number_set : (a : List ℤ) (v : ℕ) (x : ℤ) → v < length a → number_at (slice_set a v x) v ≡ x
number_set [] v x h = absurd (omega (arith, h))
number_set (y ∷ a) zero x h = refl
number_set (y ∷ a) (suc v) x h = number_set a v x (omega (arith, h))

pub number_other : (a : List ℤ) (v u : ℕ) (x : ℤ) → (u ≡ v → ⊥) → number_at (slice_set a v x) u ≡ number_at a u
number_other [] v u x h = refl
number_other (y ∷ a) zero zero x h = absurd (h refl)
number_other (y ∷ a) zero (suc u) x h = refl
number_other (y ∷ a) (suc v) zero x h = refl
number_other (y ∷ a) (suc v) (suc u) x h = number_other a v u x (λ e. h (ap suc e))

pub cases_same : (u v : ℕ) → (u ≡ v) ⊎ (u ≡ v → ⊥)
cases_same zero zero = inl refl
cases_same zero (suc v) = inr (λ e. absurd (omega (arith, e)))
cases_same (suc u) zero = inr (λ e. absurd (omega (arith, e)))
cases_same (suc u) (suc v) = elim (cases_same u v) [ inl e ↦ inl (ap suc e) | inr n ↦ inr (λ e. n (omega (arith, e))) ]

-- ---- the least numbers of the first domains

took_one : (ds : List (List (ℤ × ℤ))) (d : List (ℤ × ℤ)) (p : ℕ) → p < length ds → d ≡ dom_at ds p → map least (take (suc p) ds) ≡ map least (take p ds) ++ least d ∷ []
took_one [] d p h is = absurd (omega (arith, h))
took_one (e ∷ ds) d zero h is = ap (λ (x : List (ℤ × ℤ)). least x ∷ []) (sym is)
took_one (e ∷ ds) d (suc p) h is = ap (λ (ns : List ℤ). least e ∷ ns) (took_one ds d p (omega (arith, h)) is)

pub take_more : (ds : List (List (ℤ × ℤ))) (d : List (ℤ × ℤ)) (p : ℕ) → p < length ds → d ≡ dom_at ds p → map least (take (p + 1) ds) ≡ map least (take p ds) ++ least d ∷ []
take_more ds d p h is = let more : p + 1 ≡ suc p = omega arith in ap (λ (n : ℕ). map least (take n ds)) more ∙ took_one ds d p h is

pub front_numbers : (k : ℕ) (ds : List (List (ℤ × ℤ))) → AreDomains ds → AreNumbers (map least (take k ds))
front_numbers zero ds domains = tt
front_numbers (suc k) [] domains = tt
front_numbers (suc k) (d ∷ ds) domains =
    let first = domains 0 (omega arith) in
    (within_limits d (least d) first.0.1 (least_member d first.1 first.0.0).0, front_numbers k ds (λ v h. domains (suc v) (omega (arith, h))))
