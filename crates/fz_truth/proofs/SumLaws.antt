-- A weighted sum, product after product.
use Rattle.std.proofs.Common.{◌≡◌, ℕ, ℤ, zero, suc, ◌+◌, ◌*◌, ◌^◌, ◌≤◌, ◌<◌, List, [], ◌∷◌, take, length, get_or, pos, ◌+ℤ◌, ◌*ℤ◌, arith, add-one, sym, ap, ap₂, refl, ◌∙◌, subst, min, map, ◌⊎◌, inl, inr}
use Rattle.std.specs.Int.RustNames.{unsigned_abs, FitsSigned}
use Rattle.std.specs.Int.{w128}
use Rattle.std.proofs.lemmas.Int.{ints, fits_signed_from_abs}
use Rattle.std.proofs.lemmas.List.{get_or-map, length-map}
use Rattle.fz_spec.specs.declared.term.Term.{Term}
use Rattle.fz_spec.specs.Truth.{weighted_sum}
use Rattle.fz_spec.specs.Constraints.{term_value}
use Rattle.fz_truth.proofs.Sizes.{near_more}

one_first : (p : ℤ) → (p +ℤ pos 0) ≡ (pos 0 +ℤ p)
one_first p = omega (arith, ints)

moved : (a b c : ℤ) → (a +ℤ (b +ℤ c)) ≡ ((a +ℤ b) +ℤ c)
moved a b c = omega (arith, ints)

one_more : (cs ys : List ℤ) (n : ℕ) (d e : ℤ) → n < length cs → n < length ys
    → weighted_sum (take (suc n) cs) (take (suc n) ys) ≡ weighted_sum (take n cs) (take n ys) +ℤ (get_or cs n d *ℤ get_or ys n e)
one_more [] ys n d e h k = absurd (omega (arith, h))
one_more (c ∷ cs) [] n d e h k = absurd (omega (arith, k))
one_more (c ∷ cs) (y ∷ ys) zero d e h k = one_first (c *ℤ y)
one_more (c ∷ cs) (y ∷ ys) (suc n) d e h k =
    ap (λ u. (c *ℤ y) +ℤ u) (one_more cs ys n d e (omega (arith, h)) (omega (arith, k))) ∙ moved (c *ℤ y) (weighted_sum (take n cs) (take n ys)) (get_or cs n d *ℤ get_or ys n e)

-- the first n products, and how far their sum is from 0 at most
pub record IsSummed (cs ys : List ℤ) (n : ℕ) (sum : ℤ) : Type 0 where
  pub is : sum ≡ weighted_sum (take n cs) (take n ys)
  pub near : unsigned_abs sum ≤ n * 2 ^ 62

pub none : (cs ys : List ℤ) → IsSummed cs ys 0 (pos 0)
none cs ys = record { is = refl; near = omega arith }

pub more : (cs ys : List ℤ) (n : ℕ) (sum d e p : ℤ) → IsSummed cs ys n sum → n < length cs → n < length ys → d ≡ get_or cs n d → e ≡ get_or ys n e → p ≡ d *ℤ e → unsigned_abs p ≤ 2 ^ 62
    → IsSummed cs ys (n + 1) (sum +ℤ p)
more cs ys n sum d e p so_far h k first second is near = record {
  is = rw add-one (ap₂ (λ u v. u +ℤ v) so_far.is (is ∙ ap₂ (λ u v. u *ℤ v) first second) ∙ sym (one_more cs ys n d e h k));
  near = near_more (2 ^ 62) n sum p so_far.near near;
}

-- past the end of a list there is no product
pub whole : (cs ys : List ℤ) (n : ℕ) → n ≡ length cs → weighted_sum (take n cs) (take n ys) ≡ weighted_sum cs ys
whole [] ys zero e = refl
whole [] ys (suc n) e = cc
whole (c ∷ cs) ys zero e = cc
whole (c ∷ cs) [] (suc n) e = refl
whole (c ∷ cs) (y ∷ ys) (suc n) e = ap (λ u. (c *ℤ y) +ℤ u) (whole cs ys n (omega (arith, e)))

pub whole_second : (cs ys : List ℤ) (n : ℕ) → n ≡ length ys → weighted_sum (take n cs) (take n ys) ≡ weighted_sum cs ys
whole_second [] [] zero e = refl
whole_second [] ys (suc n) e = refl
whole_second [] (y ∷ ys) zero e = cc
whole_second (c ∷ cs) [] zero e = refl
whole_second (c ∷ cs) [] (suc n) e = cc
whole_second (c ∷ cs) (y ∷ ys) zero e = cc
whole_second (c ∷ cs) (y ∷ ys) (suc n) e = ap (λ u. (c *ℤ y) +ℤ u) (whole_second cs ys n (omega (arith, e)))

either : (a b : ℕ) → (min a b ≡ a) ⊎ (min a b ≡ b)
either a b = grind arith

pub ended : (cs ys : List ℤ) (n k : ℕ) (sum : ℤ) → IsSummed cs ys n sum → k ≡ length ys → n ≡ min (length cs) k → sum ≡ weighted_sum cs ys
ended cs ys n k sum s l e =
    elim (either (length cs) k) [
      | inl first ↦ s.is ∙ whole cs ys n (e ∙ first)
      | inr second ↦ s.is ∙ whole_second cs ys n (e ∙ second ∙ l)
    ]

-- ---- the same, of what the code reads

pub fits : (n : ℕ) (a b : ℤ) → unsigned_abs a ≤ n * 2 ^ 62 → unsigned_abs b ≤ 2 ^ 62 → n < 2 ^ 64 → FitsSigned w128 (a +ℤ b)
fits n a b h k l = fits_signed_from_abs w128 (a +ℤ b) (let m = near_more (2 ^ 62) n a b h k in omega (arith, m, l))

pub product_fits : (b : ℤ) → unsigned_abs b ≤ 2 ^ 62 → FitsSigned w128 b
product_fits b k = fits_signed_from_abs w128 b (omega (arith, k))

pub step : (cs : List ℤ) (ts : List Term) (a : List ℤ) (n : ℕ) (sum d e p : ℤ) (t : Term) → IsSummed cs (map (term_value a) ts) n sum → n < length cs → n < length ts → ((z : ℤ) → d ≡ get_or cs n z)
    → ((z : Term) → t ≡ get_or ts n z) → e ≡ term_value a t → p ≡ d *ℤ e → unsigned_abs p ≤ 2 ^ 62 → IsSummed cs (map (term_value a) ts) (n + 1) (sum +ℤ p)
step cs ts a n sum d e p t so_far h k first second value is near =
    more cs (map (term_value a) ts) n sum d e p so_far h (subst (λ (u : ℕ). n < u) (sym (length-map ts (term_value a))) k) (first d)
    (value ∙ ap (term_value a) (second t) ∙ sym (get_or-map (term_value a) ts n t e k)) is near

pub written : (cs ys : List ℤ) (n m : ℕ) (sum total : ℤ) → m ≡ n → total ≡ sum → IsSummed cs ys n sum → IsSummed cs ys m total
written cs ys n m sum total e f s = subst (λ (u : ℕ). IsSummed cs ys u total) (sym e) (subst (λ (u : ℤ). IsSummed cs ys n u) (sym f) s)
