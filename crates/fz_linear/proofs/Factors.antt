-- The other factor of a product.
use Rattle.std.proofs.Common.{◌≡◌, ◌≢◌, ◌<◌, ◌^◌, sym, ap, subst, ◌∙◌, arith, inl, inr}
use Rattle.std.specs.Prelude.{ℤ, pos, negsuc, ◌+ℤ◌, ◌*ℤ◌, ◌≤ℤ◌, ◌<ℤ◌}
use Rattle.std.proofs.lemmas.Int.{ints, by_lt_z, fits_signed_from_abs}
use Rattle.std.proofs.Math.IntN.{*ℤ_comm}
use Rattle.std.specs.Int.{w32}
use Rattle.std.specs.Int.RustNames.{FitsSigned, unsigned_abs}
use Rattle.fz_sets.specs.Sets.{IsWithinLimits}
use Rattle.fz_num.specs.Quotients.{IsFloor}
use Rattle.fz_num.proofs.Products.{mul_le, mul_ge}
use Rattle.fz_num.proofs.Euclid.{one_more}

-- a number below another: their products are at least a factor apart
apart_up : (k x y : ℤ) → pos 0 ≤ℤ k → x <ℤ y → ((k *ℤ x) +ℤ k) ≤ℤ (k *ℤ y)
apart_up (negsuc n) x y rising below = absurd (omega (arith, ints, rising))
apart_up (pos n) x y rising below =
    let steps = mul_le n (x +ℤ pos 1) y (omega (arith, ints, below)) in
    let more = one_more x (pos n) in
    let left = *ℤ_comm (pos n) (x +ℤ pos 1) in
    let right = *ℤ_comm (pos n) x in
    omega (arith, ints, steps, more, left, right)

apart_down : (k x y : ℤ) → k <ℤ pos 0 → x <ℤ y → (k *ℤ y) ≤ℤ ((k *ℤ x) +ℤ k)
apart_down (pos n) x y falling below = absurd (omega (arith, ints, falling))
apart_down (negsuc n) x y falling below =
    let steps = mul_ge n (x +ℤ pos 1) y (omega (arith, ints, below)) in
    let more = one_more x (negsuc n) in
    let left = *ℤ_comm (negsuc n) (x +ℤ pos 1) in
    let right = *ℤ_comm (negsuc n) x in
    omega (arith, ints, steps, more, left, right)

-- a product's other factor is its quotient rounded down
pub quotient_is : (k x q product : ℤ) → k ≢ pos 0 → IsFloor product k q → (k *ℤ x) ≡ product → x ≡ q
quotient_is k x q product nonzero floor is =
    let turned = *ℤ_comm k q in
    elim floor [
      | inl up ↦ by_lt_z x q
          (λ below. let far = apart_up k x q (omega (arith, ints, up)) below in absurd (omega (arith, ints, far, up, is, turned)))
          (λ reached. by_lt_z q x
          (λ above. let far = apart_up k q x (omega (arith, ints, up)) above in absurd (omega (arith, ints, far, up, is, turned)))
          (λ short. omega (arith, ints, reached, short)))
      | inr down ↦ by_lt_z x q
          (λ below. let far = apart_down k x q (omega (arith, ints, down)) below in absurd (omega (arith, ints, far, down, is, turned)))
          (λ reached. by_lt_z q x
          (λ above. let far = apart_down k q x (omega (arith, ints, down)) above in absurd (omega (arith, ints, far, down, is, turned)))
          (λ short. omega (arith, ints, reached, short)))
    ]

pub missed : (k v product : ℤ) → ((k *ℤ v) ≡ product → ⊥) → (q : ℤ) → k ≢ pos 0 → IsFloor product k q → v ≡ q → (x : ℤ) → (k *ℤ x) ≢ product
missed k v product miss q nonzero floor is x e = miss (ap (λ (y : ℤ). k *ℤ y) (is ∙ sym (quotient_is k x q product nonzero floor e)) ∙ e)

abs_of_limits : (x : ℤ) → IsWithinLimits x → unsigned_abs x < 2 ^ 31
abs_of_limits (pos n) limits = omega (arith, ints, limits.0, limits.1)
abs_of_limits (negsuc n) limits = omega (arith, ints, limits.0, limits.1)

pub fits_limits : (x : ℤ) → IsWithinLimits x → FitsSigned w32 x
fits_limits x limits = fits_signed_from_abs w32 x (abs_of_limits x limits)

pub no_fitting : (k q product : ℤ) → k ≢ pos 0 → IsFloor product k q → (FitsSigned w32 q → ⊥) → (x : ℤ) → IsWithinLimits x → (k *ℤ x) ≢ product
no_fitting k q product nonzero floor wide x limits e = wide (subst (λ (y : ℤ). FitsSigned w32 y) (quotient_is k x q product nonzero floor e) (fits_limits x limits))
