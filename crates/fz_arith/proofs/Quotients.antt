-- A product divided by a factor is the other factor; and what lies between corners.
use Rattle.std.proofs.Common.{◌≡◌, ◌≢◌, ℕ, zero, suc, ◌+◌, ◌*◌, ◌/◌, [], ◌∷◌, refl, sym, ap, ◌∙◌, subst, add-zero, arith, inl, inr}
use Rattle.std.specs.Prelude.{ℤ, pos, negsuc, neg_ℤ, ◌*ℤ◌, ◌≤ℤ◌, ◌<ℤ◌, int_div, ◌⊎◌}
use Rattle.std.specs.Int.{int_min, int_max}
use Rattle.std.specs.List.{fold}
use Rattle.std.proofs.lemmas.Int.{ints, clamps}
use Rattle.std.proofs.lemmas.Nat.{div-mul-add}
use Rattle.std.proofs.Math.IntN.{zero-*ℤ, pos-*ℤ-pos, pos-*ℤ-negsuc, negsuc-*ℤ-pos, negsuc-*ℤ-negsuc}
use Rattle.fz_dom.specs.Changes.{IsFromTo}
use Rattle.fz_num.specs.Spans.{IsBetween}
use Rattle.fz_num.proofs.Products.{factor_between, between_comm, divided_between, divisor_between}

-- ---- quotients

whole : (m n : ℕ) → (m * suc n) / suc n ≡ m
whole m n = subst (λ (k : ℕ). k / suc n ≡ m) (add-zero (m * suc n)) (div-mul-add m (suc n) 0 (omega arith))

-- the negative of a product that isn't 0
below_zero : (m n : ℕ) → neg_ℤ (pos (suc m * suc n)) ≡ negsuc (m * suc n + n)
below_zero m n = omega (arith, ints)

above_zero : (m n : ℕ) → suc m * suc n ≡ suc (m * suc n + n)
above_zero m n = omega arith

pub quotient_is : (x y z : ℤ) → (x *ℤ y) ≡ z → y ≢ pos 0 → int_div z y ≡ x
quotient_is x (pos zero) z is not = absurd (not refl)
quotient_is (pos m) (pos (suc n)) z is not =
    let e : z ≡ pos (m * suc n) = sym is ∙ pos-*ℤ-pos m (suc n) in rw (e, whole m n) refl
quotient_is (pos zero) (negsuc n) z is not =
    let e : z ≡ pos 0 = sym is ∙ zero-*ℤ (negsuc n) in rw e (omega (arith, ints, whole 0 n))
quotient_is (pos (suc m)) (negsuc n) z is not =
    let e : z ≡ negsuc (m * suc n + n) = sym is ∙ pos-*ℤ-negsuc (suc m) n ∙ below_zero m n in
    let w : suc (m * suc n + n) / suc n ≡ suc m = ap (λ k. k / suc n) (sym (above_zero m n)) ∙ whole (suc m) n in
    rw (e, w) refl
quotient_is (negsuc m) (pos (suc n)) z is not =
    let e : z ≡ negsuc (m * suc n + n) = sym is ∙ negsuc-*ℤ-pos m (suc n) ∙ below_zero m n in
    let w : suc (m * suc n + n) / suc n ≡ suc m = ap (λ k. k / suc n) (sym (above_zero m n)) ∙ whole (suc m) n in
    rw (e, w) refl
quotient_is (negsuc m) (negsuc n) z is not =
    let e : z ≡ pos (suc m * suc n) = sym is ∙ negsuc-*ℤ-negsuc m n in rw (e, whole (suc m) n) refl

-- ---- corners

low_between : (m a b z : ℤ) → m ≤ℤ a → m ≤ℤ b → IsBetween a b z → m ≤ℤ z
low_between m a b z to_a to_b (inl h) = let low = h.0 in omega (arith, ints, to_a, low)
low_between m a b z to_a to_b (inr h) = let low = h.0 in omega (arith, ints, to_b, low)

high_between : (m a b z : ℤ) → a ≤ℤ m → b ≤ℤ m → IsBetween a b z → z ≤ℤ m
high_between m a b z from_a from_b (inl h) = let high = h.1 in omega (arith, ints, from_b, high)
high_between m a b z from_a from_b (inr h) = let high = h.1 in omega (arith, ints, from_a, high)

abbrev pub lowest : ℤ → ℤ → ℤ → ℤ → ℤ
lowest a b c d = fold int_min a (b ∷ c ∷ d ∷ [])

abbrev pub highest : ℤ → ℤ → ℤ → ℤ → ℤ
highest a b c d = fold int_max a (b ∷ c ∷ d ∷ [])

min_left : (a b : ℤ) → int_min a b ≤ℤ a
min_left a b = omega (arith, ints, clamps)

min_right : (a b : ℤ) → int_min a b ≤ℤ b
min_right a b = omega (arith, ints, clamps)

max_left : (a b : ℤ) → a ≤ℤ int_max a b
max_left a b = omega (arith, ints, clamps)

max_right : (a b : ℤ) → b ≤ℤ int_max a b
max_right a b = omega (arith, ints, clamps)

le_le : (a b c : ℤ) → a ≤ℤ b → b ≤ℤ c → a ≤ℤ c
le_le a b c p q = omega (arith, ints, p, q)

pub lowest_is : (a b c d : ℤ) → (lowest a b c d ≤ℤ a) × (lowest a b c d ≤ℤ b) × (lowest a b c d ≤ℤ c) × (lowest a b c d ≤ℤ d)
lowest_is a b c d =
    let to_ab = le_le (lowest a b c d) (int_min (int_min a b) c) (int_min a b) (min_left (int_min (int_min a b) c) d) (min_left (int_min a b) c) in (
      le_le (lowest a b c d) (int_min a b) a to_ab (min_left a b),
      le_le (lowest a b c d) (int_min a b) b to_ab (min_right a b),
      le_le (lowest a b c d) (int_min (int_min a b) c) c (min_left (int_min (int_min a b) c) d) (min_right (int_min a b) c),
      min_right (int_min (int_min a b) c) d,
    )

pub highest_is : (a b c d : ℤ) → (a ≤ℤ highest a b c d) × (b ≤ℤ highest a b c d) × (c ≤ℤ highest a b c d) × (d ≤ℤ highest a b c d)
highest_is a b c d =
    let from_ab = le_le (int_max a b) (int_max (int_max a b) c) (highest a b c d) (max_left (int_max a b) c) (max_left (int_max (int_max a b) c) d) in (
      le_le a (int_max a b) (highest a b c d) (max_left a b) from_ab,
      le_le b (int_max a b) (highest a b c d) (max_right a b) from_ab,
      le_le c (int_max (int_max a b) c) (highest a b c d) (max_right (int_max a b) c) (max_left (int_max (int_max a b) c) d),
      max_right (int_max (int_max a b) c) d,
    )

corners : (f : ℤ → ℤ → ℤ) (l h l' h' x y : ℤ) → IsBetween (f l y) (f h y) (f x y) → IsBetween (f l l') (f l h') (f l y) → IsBetween (f h l') (f h h') (f h y)
    → IsFromTo (lowest (f l l') (f l h') (f h l') (f h h')) (highest (f l l') (f l h') (f h l') (f h h')) (f x y)
corners f l h l' h' x y between at_low at_high =
    let m = lowest (f l l') (f l h') (f h l') (f h h') in
    let n = highest (f l l') (f l h') (f h l') (f h h') in
    let low = lowest_is (f l l') (f l h') (f h l') (f h h') in
    let high = highest_is (f l l') (f l h') (f h l') (f h h') in (
      low_between m (f l y) (f h y) (f x y) (low_between m (f l l') (f l h') (f l y) low.0 low.1 at_low) (low_between m (f h l') (f h h') (f h y) low.2 low.3 at_high) between,
      high_between n (f l y) (f h y) (f x y) (high_between n (f l l') (f l h') (f l y) high.0 high.1 at_low) (high_between n (f h l') (f h h') (f h y) high.2 high.3 at_high) between,
    )

pub product_corners : (l h l' h' x y : ℤ) → l ≤ℤ x → x ≤ℤ h → l' ≤ℤ y → y ≤ℤ h'
    → IsFromTo (lowest (l *ℤ l') (l *ℤ h') (h *ℤ l') (h *ℤ h')) (highest (l *ℤ l') (l *ℤ h') (h *ℤ l') (h *ℤ h')) (x *ℤ y)
product_corners l h l' h' x y low high low' high' =
    corners (λ u w. u *ℤ w) l h l' h' x y (between_comm y l h x (factor_between y l h x low high)) (factor_between l l' h' y low' high') (factor_between h l' h' y low' high')

pub quotient_corners : (l h l' h' z y : ℤ) → (pos 0 <ℤ l') ⊎ (h' <ℤ pos 0) → l ≤ℤ z → z ≤ℤ h → l' ≤ℤ y → y ≤ℤ h'
    → IsFromTo (lowest (int_div l l') (int_div l h') (int_div h l') (int_div h h')) (highest (int_div l l') (int_div l h') (int_div h l') (int_div h h')) (int_div z y)
quotient_corners l h l' h' z y sign low high low' high' =
    corners int_div l h l' h' z y (divided_between y l h z low high) (divisor_between l l' h' y sign low' high') (divisor_between h l' h' y sign low' high')
