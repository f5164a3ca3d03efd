-- A window on a range of numbers: the places that are nearest to its ends.
use Rattle.std.proofs.Common.{◌≡◌, ℕ, ◌<◌, ◌≤◌, ◌⊎◌, inl, inr, arith, ℤ, pos, ◌+ℤ◌, ◌-ℤ◌, ◌≤ℤ◌, ◌<ℤ◌}
use Rattle.std.specs.Prelude.{◌↔◌}
use Rattle.std.specs.Int.{bit_at}
use Rattle.std.proofs.lemmas.Int.{ints, by_lt_z}
use Rattle.std.proofs.lemmas.Nat.Bits.{bit_at-zero}

pub window_none : (low high base : ℤ) (i : ℕ) → i < 64 → (high <ℤ base) ⊎ ((base +ℤ pos 63) <ℤ low)
    → (bit_at 0 i ≡ 1) ↔ ((low ≤ℤ (base +ℤ pos i)) × ((base +ℤ pos i) ≤ℤ high))
window_none low high base i l w = (
  λ e. (let z = bit_at-zero i in absurd (omega arith)),
  λ m. absurd (let a = m.0 in let b = m.1 in elim w [ inl lt ↦ omega (arith, ints) | inr lt ↦ omega (arith, ints) ]),
)

pub window_some : (low high base f l : ℤ) (p q run : ℕ) → f ≡ (low -ℤ base) → l ≡ (high -ℤ base) → pos 0 ≤ℤ l → f ≤ℤ pos 63
    → (pos 0 ≤ℤ f → f ≤ℤ pos 63 → pos p ≡ f) → (f ≤ℤ pos 0 → p ≡ 0) → (pos 0 ≤ℤ l → l ≤ℤ pos 63 → pos q ≡ l) → (pos 63 ≤ℤ l → q ≡ 63)
    → ((i : ℕ) → i < 64 → (bit_at run i ≡ 1) ↔ ((p ≤ i) × (i ≤ q)))
    → (i : ℕ) → i < 64 → (bit_at run i ≡ 1) ↔ ((low ≤ℤ (base +ℤ pos i)) × ((base +ℤ pos i) ≤ℤ high))
window_some low high base f l p q run d e a b pf pz qf qt g i lt =
    let first : (p ≤ i → f ≤ℤ pos i) × (f ≤ℤ pos i → p ≤ i) = by_lt_z f (pos 0)
    (λ n. let z = pz (omega (arith, ints)) in (λ h. omega (arith, ints), λ h. omega (arith, ints)))
    (λ n. let z = pf n b in (λ h. omega (arith, ints), λ h. omega (arith, ints))) in
    let last : (i ≤ q → pos i ≤ℤ l) × (pos i ≤ℤ l → i ≤ q) = by_lt_z (pos 63) l
    (λ n. let z = qt (omega (arith, ints)) in (λ h. omega (arith, ints), λ h. omega (arith, ints)))
    (λ n. let z = qf a n in (λ h. omega (arith, ints), λ h. omega (arith, ints))) in (
      λ h. (let m = (g i lt).0 h in let s = first.0 m.0 in let t = last.0 m.1 in (omega (arith, ints), omega (arith, ints))),
      λ m. (let m0 = m.0 in let m1 = m.1 in (g i lt).1 (first.1 (omega (arith, ints)), last.1 (omega (arith, ints)))),
    )
