-- The sizes and the signs of products, quotients and rests.
use Rattle.std.proofs.Common.{◌≡◌, ◌≢◌, ℕ, zero, suc, ◌*◌, ◌/◌, [], ◌∷◌, refl, sym, subst, ap, ◌∙◌, arith, Bool, true, false}
use Rattle.std.specs.Prelude.{ℤ, pos, negsuc, neg_ℤ, ◌*ℤ◌, ◌≤ℤ◌, ◌<ℤ◌, int_div, int_rem, unsigned_abs}
use Rattle.std.proofs.lemmas.Int.{ints, unsigned_abs-mul}
use Rattle.std.proofs.Math.IntN.{pos-*ℤ-pos, pos-*ℤ-negsuc, negsuc-*ℤ-pos, negsuc-*ℤ-negsuc}
use Rattle.fz_spec.specs.declared.shape.Operation.{Operation}
use Rattle.fz_spec.specs.declared.shape.Operation.TheVariants.{Plus, Times, Quotient, Remainder, Abs, Min, Max}
use Rattle.fz_spec.specs.Truth.{IsResult}
use Rattle.fz_ranges.specs.Ranges.{IsOnSide, IsTurned, IsScaling, turned}
use Rattle.fz_ranges.specs.Sizes.{IsParted, IsSizedBy}
use Rattle.fz_ranges.proofs.Parted.{parted, remainder_is, rest_up, rest_down}

-- ---- sizes

product_size : (u w v : ℤ) → (u *ℤ w) ≡ v → unsigned_abs v ≡ unsigned_abs u * unsigned_abs w
product_size u w v is = ap unsigned_abs (sym is) ∙ unsigned_abs-mul u w

pub sized_by : (o : Operation) (u w v : ℤ) → IsResult o (u ∷ w ∷ []) v → IsSizedBy o (unsigned_abs u) (unsigned_abs w) (unsigned_abs v)
sized_by Times u w v h = product_size u w v h
sized_by Quotient u w v h =
    let rest = unsigned_abs (int_rem u w) in
    (rest, subst (λ (k : ℕ). IsParted (unsigned_abs u) (unsigned_abs w) k rest) (ap unsigned_abs h.1) (parted u w h.0))
sized_by Remainder u w v h =
    let times = unsigned_abs (int_div u w) in
    (times, subst (λ (k : ℕ). IsParted (unsigned_abs u) (unsigned_abs w) times k) (ap unsigned_abs (remainder_is u w ∙ h.1)) (parted u w h.0))
sized_by Plus u w v h = tt
sized_by Abs u w v h = tt
sized_by Min u w v h = tt
sized_by Max u w v h = tt

-- ---- signs

up : (n : ℕ) → pos 0 ≤ℤ pos n
up n = omega (arith, ints)

down : (n : ℕ) → neg_ℤ (pos n) ≤ℤ pos 0
down n = omega (arith, ints)

natural : (u : ℤ) → pos 0 ≤ℤ u → (n : ℕ) × (u ≡ pos n)
natural (pos n) h = (n, refl)
natural (negsuc n) h = absurd (omega (arith, ints, h))

negative : (u : ℤ) → u <ℤ pos 0 → (n : ℕ) × (u ≡ negsuc n)
negative (pos n) h = absurd (omega (arith, ints, h))
negative (negsuc n) h = (n, refl)

positive : (w : ℤ) → pos 0 ≤ℤ w → w ≢ pos 0 → (n : ℕ) × (w ≡ pos (suc n))
positive (pos zero) h not = absurd (not refl)
positive (pos (suc n)) h not = (n, refl)
positive (negsuc n) h not = absurd (omega (arith, ints, h))

product_sign : (first second : Bool) (u w : ℤ) → IsOnSide first u → IsOnSide second w → IsTurned (turned Times first second) (u *ℤ w)
product_sign false false u w a b =
    let p = natural u a in
    let q = natural w b in
    rw (p.1, q.1, pos-*ℤ-pos p.0 q.0) (up (p.0 * q.0))
product_sign false true u w a b =
    let p = natural u a in
    let q = negative w b in
    rw (p.1, q.1, pos-*ℤ-negsuc p.0 q.0) (down (p.0 * suc q.0))
product_sign true false u w a b =
    let p = negative u a in
    let q = natural w b in
    rw (p.1, q.1, negsuc-*ℤ-pos p.0 q.0) (down (suc p.0 * q.0))
product_sign true true u w a b =
    let p = negative u a in
    let q = negative w b in
    rw (p.1, q.1, negsuc-*ℤ-negsuc p.0 q.0) (up (suc p.0 * suc q.0))

quotient_sign : (first second : Bool) (u w : ℤ) → w ≢ pos 0 → IsOnSide first u → IsOnSide second w → IsTurned (turned Quotient first second) (int_div u w)
quotient_sign false false u w not a b =
    let p = natural u a in
    let q = positive w b not in
    rw (p.1, q.1) (up (p.0 / suc q.0))
quotient_sign false true u w not a b =
    let p = natural u a in
    let q = negative w b in
    rw (p.1, q.1) (down (p.0 / suc q.0))
quotient_sign true false u w not a b =
    let p = negative u a in
    let q = positive w b not in
    rw (p.1, q.1) (down (suc p.0 / suc q.0))
quotient_sign true true u w not a b =
    let p = negative u a in
    let q = negative w b in
    rw (p.1, q.1) (up (suc p.0 / suc q.0))

rest_turned : (first second : Bool) (u w v : ℤ) → int_rem u w ≡ v → IsOnSide first u → IsTurned (turned Remainder first second) v
rest_turned false second u w v e a = subst (λ z. pos 0 ≤ℤ z) e (rest_up u w a)
rest_turned true second u w v e a = subst (λ z. z ≤ℤ pos 0) e (rest_down u w (omega (arith, ints, a)))

pub sign_of : (o : Operation) (first second : Bool) (u w v : ℤ) → IsScaling o → IsOnSide first u → IsOnSide second w → IsResult o (u ∷ w ∷ []) v → IsTurned (turned o first second) v
sign_of Times first second u w v is a b h = subst (λ z. IsTurned (turned Times first second) z) h (product_sign first second u w a b)
sign_of Quotient first second u w v is a b h = subst (λ z. IsTurned (turned Quotient first second) z) h.1 (quotient_sign first second u w h.0 a b)
sign_of Remainder first second u w v is a b h = rest_turned first second u w v (remainder_is u w ∙ h.1) a
sign_of Plus first second u w v is a b h = absurd is
sign_of Abs first second u w v is a b h = absurd is
sign_of Min first second u w v is a b h = absurd is
sign_of Max first second u w v is a b h = absurd is
