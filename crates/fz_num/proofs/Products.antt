-- A product and a rounded quotient lie between those at the ends.
use Rattle.std.proofs.Common.{◌≡◌, ℕ, zero, suc, ℤ, pos, negsuc, ◌*ℤ◌, ◌≤ℤ◌, ◌<ℤ◌, ◌⊎◌, inl, inr, refl, sym, subst, arith, ◌≤◌, ◌<◌, ◌/◌, neg_ℤ, ◌*◌, ◌^◌}
use mir.Val.{SFits}
use mir.Syntax.{w128}
use Rattle.std.specs.Prelude.{int_div, unsigned_abs}
use Rattle.std.proofs.lemmas.Int.{ints, fits_signed_mul, fits_signed_from_abs}
use Rattle.std.proofs.Math.Nat.{div-zero, div-mul-le_self, div-le_self, mul-le-mul_left}
use Rattle.std.proofs.lemmas.Nat.{le-div}
use Rattle.std.proofs.Math.IntN.{*ℤ_comm, zero-*ℤ, suc_ℤ-*ℤ, pred_ℤ-*ℤ}
use Rattle.fz_num.specs.Spans.{IsBetween}

pub mul_le : (n : ℕ) (x y : ℤ) → x ≤ℤ y → (pos n *ℤ x) ≤ℤ (pos n *ℤ y)
mul_le zero x y le = rw (zero-*ℤ x, zero-*ℤ y) (omega (arith, ints))
mul_le (suc n) x y le = let e = mul_le n x y le in rw (suc_ℤ-*ℤ (pos n) x, suc_ℤ-*ℤ (pos n) y) (omega (arith, ints))

pub mul_ge : (n : ℕ) (x y : ℤ) → x ≤ℤ y → (negsuc n *ℤ y) ≤ℤ (negsuc n *ℤ x)
mul_ge zero x y le = rw (pred_ℤ-*ℤ (pos 0) x, pred_ℤ-*ℤ (pos 0) y, zero-*ℤ x, zero-*ℤ y) (omega (arith, ints))
mul_ge (suc n) x y le = let e = mul_ge n x y le in rw (pred_ℤ-*ℤ (negsuc n) x, pred_ℤ-*ℤ (negsuc n) y) (omega (arith, ints))

pub factor_between : (k l h x : ℤ) → l ≤ℤ x → x ≤ℤ h → IsBetween (k *ℤ l) (k *ℤ h) (k *ℤ x)
factor_between (pos n) l h x a b = inl (mul_le n l x a, mul_le n x h b)
factor_between (negsuc n) l h x a b = inr (mul_ge n x h b, mul_ge n l x a)

pub rising_by : (k x y : ℤ) → pos 0 ≤ℤ k → x ≤ℤ y → (k *ℤ x) ≤ℤ (k *ℤ y)
rising_by (pos n) x y le a = mul_le n x y a
rising_by (negsuc n) x y le a = absurd (omega (arith, ints, le))

pub falling_by : (k x y : ℤ) → k <ℤ pos 0 → x ≤ℤ y → (k *ℤ y) ≤ℤ (k *ℤ x)
falling_by (pos n) x y lt a = absurd (omega (arith, ints, lt))
falling_by (negsuc n) x y lt a = mul_ge n x y a

pub between_comm : (k l h x : ℤ) → IsBetween (k *ℤ l) (k *ℤ h) (k *ℤ x) → IsBetween (l *ℤ k) (h *ℤ k) (x *ℤ k)
between_comm k l h x i = rw (*ℤ_comm l k, *ℤ_comm h k, *ℤ_comm x k) i

-- ---- quotients, rounded toward zero

div-le-div_right : (a b n : ℕ) → a ≤ b → a / n ≤ b / n
div-le-div_right a b zero le = rw (div-zero a, div-zero b) (omega arith)
div-le-div_right a b (suc n) le = let q = div-mul-le_self a (suc n) in le-div (a / suc n) b (suc n) (omega arith) (omega arith)

-- over a divisor of one sign, by the number that is divided: it rises with it where the divisor is positive
over_pos : (n : ℕ) (x y : ℤ) → x ≤ℤ y → int_div x (pos n) ≤ℤ int_div y (pos n)
over_pos n (pos a) (pos b) le = let h : a ≤ b = omega (arith, ints, le) in let q = div-le-div_right a b n h in omega (arith, ints)
over_pos n (pos a) (negsuc b) le = absurd (omega (arith, ints, le))
over_pos n (negsuc a) (pos b) le = omega (arith, ints)
over_pos n (negsuc a) (negsuc b) le = let h : suc b ≤ suc a = omega (arith, ints, le) in let q = div-le-div_right (suc b) (suc a) n h in omega (arith, ints)

over_neg : (n : ℕ) (x y : ℤ) → x ≤ℤ y → int_div y (negsuc n) ≤ℤ int_div x (negsuc n)
over_neg n (pos a) (pos b) le = let h : a ≤ b = omega (arith, ints, le) in let q = div-le-div_right a b (suc n) h in omega (arith, ints)
over_neg n (pos a) (negsuc b) le = absurd (omega (arith, ints, le))
over_neg n (negsuc a) (pos b) le = omega (arith, ints)
over_neg n (negsuc a) (negsuc b) le = let h : suc b ≤ suc a = omega (arith, ints, le) in let q = div-le-div_right (suc b) (suc a) (suc n) h in omega (arith, ints)

pub divided_between : (k l h x : ℤ) → l ≤ℤ x → x ≤ℤ h → IsBetween (int_div l k) (int_div h k) (int_div x k)
divided_between (pos n) l h x a b = inl (over_pos n l x a, over_pos n x h b)
divided_between (negsuc n) l h x a b = inr (over_neg n x h b, over_neg n l x a)

-- of two divisors of one sign the one further from zero gives the smaller quotient
smaller : (a m n : ℕ) → 0 < m → m ≤ n → a / n ≤ a / m
smaller a m n p le =
    let q = div-mul-le_self a n in
    let r = mul-le-mul_left (a / n) le in
    le-div (a / n) a m p (omega arith)

by_pos : (x : ℤ) (m n k : ℕ) → 0 < m → m ≤ k → k ≤ n → IsBetween (int_div x (pos m)) (int_div x (pos n)) (int_div x (pos k))
by_pos (pos a) m n k p q r = let u = smaller a m k p q in let v = smaller a k n (omega (arith, p, q)) r in inr (omega (arith, ints), omega (arith, ints))
by_pos (negsuc a) m n k p q r = let u = smaller (suc a) m k p q in let v = smaller (suc a) k n (omega (arith, p, q)) r in inl (omega (arith, ints), omega (arith, ints))

by_neg : (x : ℤ) (m n k : ℕ) → m ≤ k → k ≤ n → IsBetween (int_div x (negsuc n)) (int_div x (negsuc m)) (int_div x (negsuc k))
by_neg (pos a) m n k q r = let u = smaller a (suc m) (suc k) (omega arith) (omega (arith, q)) in let v = smaller a (suc k) (suc n) (omega arith) (omega (arith, r)) in inr (omega (arith, ints), omega (arith, ints))
by_neg (negsuc a) m n k q r = let u = smaller (suc a) (suc m) (suc k) (omega arith) (omega (arith, q)) in let v = smaller (suc a) (suc k) (suc n) (omega arith) (omega (arith, r)) in inl (omega (arith, ints), omega (arith, ints))

pos_form : (x : ℤ) → pos 0 <ℤ x → (n : ℕ) × (0 < n) × (x ≡ pos n)
pos_form (pos n) lt = (n, omega (arith, ints, lt), refl)
pos_form (negsuc n) lt = absurd (omega (arith, ints, lt))

neg_form : (x : ℤ) → x <ℤ pos 0 → (n : ℕ) × (x ≡ negsuc n)
neg_form (pos n) lt = absurd (omega (arith, ints, lt))
neg_form (negsuc n) lt = (n, refl)

above_at : (x l h k : ℤ) (m n i : ℕ) → l ≡ pos m → h ≡ pos n → k ≡ pos i → 0 < m → l ≤ℤ k → k ≤ℤ h → IsBetween (int_div x l) (int_div x h) (int_div x k)
above_at x l h k m n i e f g p a b =
    let q : m ≤ i = omega (arith, ints) in
    let r : i ≤ n = omega (arith, ints) in
    let t = by_pos x m n i p q r in
    subst (λ (z : ℤ). IsBetween (int_div x z) (int_div x h) (int_div x k)) (sym e)
    (subst (λ (z : ℤ). IsBetween (int_div x (pos m)) (int_div x z) (int_div x k)) (sym f)
    (subst (λ (z : ℤ). IsBetween (int_div x (pos m)) (int_div x (pos n)) (int_div x z)) (sym g) t))

below_at : (x l h k : ℤ) (m n i : ℕ) → l ≡ negsuc m → h ≡ negsuc n → k ≡ negsuc i → l ≤ℤ k → k ≤ℤ h → IsBetween (int_div x l) (int_div x h) (int_div x k)
below_at x l h k m n i e f g a b =
    let q : n ≤ i = omega (arith, ints) in
    let r : i ≤ m = omega (arith, ints) in
    let t = by_neg x n m i q r in
    subst (λ (z : ℤ). IsBetween (int_div x z) (int_div x h) (int_div x k)) (sym e)
    (subst (λ (z : ℤ). IsBetween (int_div x (negsuc m)) (int_div x z) (int_div x k)) (sym f)
    (subst (λ (z : ℤ). IsBetween (int_div x (negsuc m)) (int_div x (negsuc n)) (int_div x z)) (sym g) t))

-- l, k and h of one sign
pub divisor_between : (x l h k : ℤ) → (pos 0 <ℤ l) ⊎ (h <ℤ pos 0) → l ≤ℤ k → k ≤ℤ h → IsBetween (int_div x l) (int_div x h) (int_div x k)
divisor_between x l h k (inl s) a b =
    let p = pos_form l s in
    let q = pos_form k (omega (arith, ints)) in
    let r = pos_form h (omega (arith, ints)) in
    above_at x l h k p.0 r.0 q.0 p.2 r.2 q.2 p.1 a b
divisor_between x l h k (inr s) a b =
    let p = neg_form l (omega (arith, ints)) in
    let q = neg_form k (omega (arith, ints)) in
    let r = neg_form h s in
    below_at x l h k p.0 r.0 q.0 p.1 r.1 q.1 a b

-- ---- sizes

pub size_of : (x : ℤ) (k : ℕ) → neg_ℤ (pos k) ≤ℤ x → x ≤ℤ pos k → unsigned_abs x ≤ k
size_of (pos n) k a b = omega (arith, ints, b)
size_of (negsuc n) k a b = omega (arith, ints, a)

pub small_product : (x y : ℤ) (j k : ℕ) → neg_ℤ (pos j) ≤ℤ x → x ≤ℤ pos j → neg_ℤ (pos k) ≤ℤ y → y ≤ℤ pos k → j * k < 2 ^ 127 → SFits w128 (x *ℤ y)
small_product x y j k a b c d lt = fits_signed_mul w128 x y j k (size_of x j a b) (size_of y k c d) lt

pub neg_size : (n : ℕ) → unsigned_abs (neg_ℤ (pos n)) ≡ n
neg_size zero = refl
neg_size (suc n) = refl

quotient_size : (x y : ℤ) → unsigned_abs (int_div x y) ≤ unsigned_abs x
quotient_size (pos a) (pos b) = div-le_self a b
quotient_size (pos a) (negsuc b) = let h = div-le_self a (suc b) in omega (arith, neg_size (a / suc b))
quotient_size (negsuc a) (pos b) = let h = div-le_self (suc a) b in omega (arith, neg_size (suc a / b))
quotient_size (negsuc a) (negsuc b) = div-le_self (suc a) (suc b)

pub small_quotient : (x y : ℤ) → neg_ℤ (pos (2 ^ 100)) ≤ℤ x → x ≤ℤ pos (2 ^ 100) → SFits w128 (int_div x y)
small_quotient x y a b = fits_signed_from_abs w128 (int_div x y) (let h = quotient_size x y in let g = size_of x (2 ^ 100) a b in omega arith)
