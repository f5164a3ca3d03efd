-- From the quotient whose rest is not negative to the quotients that are rounded down and up.
use Rattle.std.proofs.Common.{◌≡◌, ◌≢◌, ℕ, zero, suc, ℤ, pos, negsuc, ◌+ℤ◌, ◌-ℤ◌, ◌*ℤ◌, ◌≤ℤ◌, ◌<ℤ◌, ◌⊎◌, inl, inr, refl, arith, ◌≤◌, ◌+◌, ◌*◌, ◌/◌, neg_ℤ, ◌^◌}
use Rattle.std.specs.Prelude.{unsigned_abs}
use Rattle.std.specs.Int.{int_div_euclid, int_rem_euclid}
use Rattle.std.proofs.lemmas.Int.{ints, by_lt_z}
use Rattle.std.proofs.Math.IntN.{pos-*ℤ-pos, pos-*ℤ-negsuc, negsuc-*ℤ-pos, negsuc-*ℤ-negsuc, pred_ℤ-*ℤ, suc_ℤ-*ℤ}
use lib.IntN.{pred_ℤ, suc_ℤ}
use Rattle.std.proofs.Math.Nat.{div-le_self}
use mir.Val.{SFits}
use mir.Syntax.{w128}
use Rattle.fz_num.proofs.Products.{size_of, neg_size}
use Rattle.fz_num.specs.Quotients.{IsFloor, IsCeiling}

neg_product : (m b : ℕ) → (neg_ℤ (pos m) *ℤ negsuc b) ≡ pos (m * suc b)
neg_product zero b = rw (pos-*ℤ-negsuc 0 b) (omega (arith, ints))
neg_product (suc m) b = negsuc-*ℤ-negsuc m b

pred_is : (q : ℤ) → (q -ℤ pos 1) ≡ pred_ℤ q
pred_is (pos zero) = refl
pred_is (pos (suc n)) = omega (arith, ints)
pred_is (negsuc n) = omega (arith, ints)

suc_is : (q : ℤ) → (q +ℤ pos 1) ≡ suc_ℤ q
suc_is (pos n) = omega (arith, ints)
suc_is (negsuc zero) = refl
suc_is (negsuc (suc n)) = omega (arith, ints)

pub rest_is : (a b : ℤ) → b ≢ pos 0 → (a -ℤ int_div_euclid a b *ℤ b) ≡ int_rem_euclid a b
rest_is (pos a) (pos zero) n = absurd (n refl)
rest_is (pos a) (pos (suc b)) n = rw (pos-*ℤ-pos (a / suc b) (suc b)) (omega (arith, ints))
rest_is (pos a) (negsuc b) n = rw (neg_product (a / suc b) b) (omega (arith, ints))
rest_is (negsuc a) (pos zero) n = absurd (n refl)
rest_is (negsuc a) (pos (suc b)) n = rw (negsuc-*ℤ-pos (a / suc b) (suc b)) (omega (arith, ints))
rest_is (negsuc a) (negsuc b) n = rw (pos-*ℤ-negsuc (suc (a / suc b)) b) (omega (arith, ints))

pub one_less : (q b : ℤ) → ((q -ℤ pos 1) *ℤ b) ≡ (q *ℤ b -ℤ b)
one_less q b = rw (pred_is q, pred_ℤ-*ℤ q b) refl

pub one_more : (q b : ℤ) → ((q +ℤ pos 1) *ℤ b) ≡ (q *ℤ b +ℤ b)
one_more q b = rw (suc_is q, suc_ℤ-*ℤ q b) refl

-- the rest is at least 0 and smaller in size than the divisor
pub rest_bounds : (a b : ℤ) → b ≢ pos 0 → (pos 0 ≤ℤ int_rem_euclid a b) × (int_rem_euclid a b <ℤ pos (unsigned_abs b))
rest_bounds a (pos zero) n = absurd (n refl)
rest_bounds (pos a) (pos (suc b)) n = (omega (arith, ints), omega (arith, ints))
rest_bounds (negsuc a) (pos (suc b)) n = (omega (arith, ints), omega (arith, ints))
rest_bounds (pos a) (negsuc b) n = (omega (arith, ints), omega (arith, ints))
rest_bounds (negsuc a) (negsuc b) n = (omega (arith, ints), omega (arith, ints))

abs_pos : (b : ℤ) → pos 0 ≤ℤ b → pos (unsigned_abs b) ≡ b
abs_pos (pos n) le = refl
abs_pos (negsuc n) le = absurd (omega (arith, ints, le))

abs_neg : (b : ℤ) → b <ℤ pos 0 → (pos (unsigned_abs b) +ℤ b) ≡ pos 0
abs_neg (pos n) lt = absurd (omega (arith, ints, lt))
abs_neg (negsuc n) lt = omega (arith, ints)

pub floor_at : (a b q : ℤ) → b ≢ pos 0 → q ≡ int_div_euclid a b → (pos 0 ≤ℤ b) ⊎ (int_rem_euclid a b ≡ pos 0) → IsFloor a b q
floor_at a b q n e w =
    let i = rest_is a b n in let j = rest_bounds a b n in let l = j.0 in let u = j.1 in
    let k : (a -ℤ q *ℤ b) ≡ int_rem_euclid a b = rw e i in
    by_lt_z b (pos 0)
    (λ lt. let m = abs_neg b lt in elim w [ inl le ↦ absurd (omega (arith, ints, le)) | inr z ↦ inr (omega (arith, ints, z), omega (arith, ints, z)) ])
    (λ le. let m = abs_pos b le in inl (omega (arith, ints), omega (arith, ints)))

pub floor_below : (a b q : ℤ) → b <ℤ pos 0 → q ≡ (int_div_euclid a b -ℤ pos 1) → int_rem_euclid a b ≢ pos 0 → IsFloor a b q
floor_below a b q lt e w =
    let n : b ≢ pos 0 = (λ z. omega (arith, ints)) in
    let i = rest_is a b n in let j = rest_bounds a b n in let l = j.0 in let u = j.1 in
    let k = one_less (int_div_euclid a b) b in
    let m = abs_neg b lt in
    let o : (a -ℤ q *ℤ b) ≡ (int_rem_euclid a b +ℤ b) = rw (e, k) (omega (arith, ints)) in
    inr (omega (arith, ints), omega (arith, ints))

pub ceiling_at : (a b q : ℤ) → b ≢ pos 0 → q ≡ int_div_euclid a b → (b ≤ℤ pos 0) ⊎ (int_rem_euclid a b ≡ pos 0) → IsCeiling a b q
ceiling_at a b q n e w =
    let i = rest_is a b n in let j = rest_bounds a b n in let l = j.0 in let u = j.1 in
    let k : (q *ℤ b -ℤ a) ≡ neg_ℤ (int_rem_euclid a b) = rw e (omega (arith, ints)) in
    by_lt_z b (pos 0)
    (λ lt. let m = abs_neg b lt in inr (omega (arith, ints), omega (arith, ints)))
    (λ le. let m = abs_pos b le in elim w [ inl ge ↦ absurd (n (omega (arith, ints, ge))) | inr z ↦ inl (omega (arith, ints, z), omega (arith, ints, z)) ])

pub ceiling_above : (a b q : ℤ) → pos 0 <ℤ b → q ≡ (int_div_euclid a b +ℤ pos 1) → int_rem_euclid a b ≢ pos 0 → IsCeiling a b q
ceiling_above a b q lt e w =
    let n : b ≢ pos 0 = (λ z. omega (arith, ints)) in
    let i = rest_is a b n in let j = rest_bounds a b n in let l = j.0 in let u = j.1 in
    let k = one_more (int_div_euclid a b) b in
    let m = abs_pos b (omega (arith, ints)) in
    let o : (q *ℤ b -ℤ a) ≡ (b -ℤ int_rem_euclid a b) = rw (e, k) (omega (arith, ints)) in
    inl (omega (arith, ints), omega (arith, ints))

euclid_size : (a b : ℤ) → unsigned_abs (int_div_euclid a b) ≤ unsigned_abs a + 1
euclid_size (pos a) (pos b) = let h = div-le_self a b in omega (arith, h)
euclid_size (pos a) (negsuc b) = let h = div-le_self a (suc b) in let g = neg_size (a / suc b) in omega arith
euclid_size (negsuc a) (pos b) = let h = div-le_self a b in omega (arith, h)
euclid_size (negsuc a) (negsuc b) = let h = div-le_self a (suc b) in omega (arith, h)

near : (q : ℤ) → unsigned_abs q ≤ 2 ^ 100 + 1 → SFits w128 (q -ℤ pos 1) × SFits w128 (q +ℤ pos 1)
near (pos n) le = (omega (arith, ints, le), omega (arith, ints, le))
near (negsuc n) le = (omega (arith, ints, le), omega (arith, ints, le))

pub fits_near : (a b : ℤ) → neg_ℤ (pos (2 ^ 100)) ≤ℤ a → a ≤ℤ pos (2 ^ 100) → SFits w128 (int_div_euclid a b -ℤ pos 1) × SFits w128 (int_div_euclid a b +ℤ pos 1)
fits_near a b l h = near (int_div_euclid a b) (let i = euclid_size a b in let j = size_of a (2 ^ 100) l h in omega arith)
