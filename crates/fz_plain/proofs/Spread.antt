-- Sums of factors times a number.
use Rattle.std.proofs.Common.{◌≡◌, ℕ, zero, suc, ℤ, pos, negsuc, ◌+ℤ◌, ◌-ℤ◌, ◌*ℤ◌, ◌∙◌, ap, arith}
use Rattle.std.proofs.lemmas.Int.{ints}
use Rattle.std.proofs.Math.IntN.{zero-*ℤ}
use Rattle.fz_num.proofs.Euclid.{one_more, one_less}

sum_up : (n : ℕ) (l : ℤ) → (pos (suc n) +ℤ l) ≡ ((pos n +ℤ l) +ℤ pos 1)
sum_up n l = omega (arith, ints)

pub num_up : (n : ℕ) → pos (suc n) ≡ (pos n +ℤ pos 1)
num_up n = omega (arith, ints)

zero_down : (l : ℤ) → (negsuc 0 +ℤ l) ≡ (l -ℤ pos 1)
zero_down l = omega (arith, ints)

pub minus_one : negsuc 0 ≡ (pos 0 -ℤ pos 1)
minus_one = omega (arith, ints)

sum_down : (n : ℕ) (l : ℤ) → (negsuc (suc n) +ℤ l) ≡ ((negsuc n +ℤ l) -ℤ pos 1)
sum_down n l = omega (arith, ints)

pub num_down : (n : ℕ) → negsuc (suc n) ≡ (negsuc n -ℤ pos 1)
num_down n = omega (arith, ints)

-- a sum of factors times a number
pub spread : (k l x : ℤ) → ((k +ℤ l) *ℤ x) ≡ ((k *ℤ x) +ℤ (l *ℤ x))
spread (pos zero) l x = let same : (pos 0 +ℤ l) ≡ l = omega (arith, ints) in let none = zero-*ℤ x in rw same (omega (arith, ints, none))
spread (pos (suc n)) l x =
    let up = ap (λ (m : ℤ). m *ℤ x) (sum_up n l) ∙ one_more (pos n +ℤ l) x in
    let here = ap (λ (m : ℤ). m *ℤ x) (num_up n) ∙ one_more (pos n) x in
    let rest = spread (pos n) l x in
    omega (arith, ints, up, here, rest)
spread (negsuc zero) l x =
    let down = ap (λ (m : ℤ). m *ℤ x) (zero_down l) ∙ one_less l x in
    let here = ap (λ (m : ℤ). m *ℤ x) minus_one ∙ one_less (pos 0) x in
    let none = zero-*ℤ x in
    omega (arith, ints, down, here, none)
spread (negsuc (suc n)) l x =
    let down = ap (λ (m : ℤ). m *ℤ x) (sum_down n l) ∙ one_less (negsuc n +ℤ l) x in
    let here = ap (λ (m : ℤ). m *ℤ x) (num_down n) ∙ one_less (negsuc n) x in
    let rest = spread (negsuc n) l x in
    omega (arith, ints, down, here, rest)
