-- Quotients of numbers of 32 bits.
use Rattle.std.proofs.Common.{◌≡◌, ◌≢◌, ℕ, zero, suc, ◌+◌, ◌*◌, ◌/◌, ◌≤◌, ◌^◌, refl, arith, ap}
use Rattle.std.specs.Prelude.{ℤ, pos, negsuc, neg_ℤ, ◌-ℤ◌, int_div}
use Rattle.std.specs.Int.{CanDivide}
use Rattle.std.proofs.Math.Nat.{div-one, div-le_self, div-mul-le_self}
use mir.Val.{SFits}
use mir.Syntax.{w32}

negative_fits : (n : ℕ) → n ≤ 2 ^ 31 → SFits w32 (neg_ℤ (pos n))
negative_fits zero to = record { sfits = omega arith }
negative_fits (suc n) to = record { sfits = omega (arith, to) }

doubles : (k n : ℕ) → k + k ≤ k * suc (suc n)
doubles k n = omega arith

-- it is MIN / -1 alone that doesn't fit
pub quotient_overflows : (x y : ℤ) → SFits w32 x → SFits w32 y → y ≢ pos 0 → (CanDivide w32 x y → ⊥) → (pos 0 -ℤ x) ≡ int_div x y
quotient_overflows x (pos zero) fits_x fits_y not none = absurd (not refl)
quotient_overflows (pos a) (pos (suc n)) fits_x fits_y not none =
    let small = fits_x.sfits in
    let less = div-le_self a (suc n) in
    absurd (none (omega arith, record { sfits = omega (arith, small, less) }))
quotient_overflows (pos a) (negsuc n) fits_x fits_y not none =
    let small = fits_x.sfits in
    let less = div-le_self a (suc n) in
    let divisor = fits_y.sfits in
    absurd (none (omega (arith, divisor), negative_fits (a / suc n) (omega (arith, small, less))))
quotient_overflows (negsuc a) (pos (suc n)) fits_x fits_y not none =
    let small = fits_x.sfits in
    let less = div-le_self (suc a) (suc n) in
    absurd (none (omega arith, negative_fits (suc a / suc n) (omega (arith, small, less))))
quotient_overflows (negsuc a) (negsuc zero) fits_x fits_y not none =
    let one = div-one (suc a) in
    let e : 0 + suc a ≡ suc a / 1 = omega (arith, one) in
    ap (λ (n : ℕ). pos n) e
quotient_overflows (negsuc a) (negsuc (suc n)) fits_x fits_y not none =
    let small = fits_x.sfits in
    let half = div-mul-le_self (suc a) (suc (suc n)) in
    let twice = doubles (suc a / suc (suc n)) n in
    let divisor = fits_y.sfits in
    absurd (none (omega (arith, divisor), record { sfits = omega (arith, small, half, twice) }))
