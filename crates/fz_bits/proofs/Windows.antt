-- Some of 64 numbers that follow one another, bit by bit.
use Rattle.std.proofs.Common.{◌≡◌, ℕ, ◌<◌, ◌≤◌, ◌⊎◌, inl, inr, refl, subst, arith}
use Rattle.std.specs.Prelude.{◌↔◌, ℤ, pos, ◌+ℤ◌, ◌-ℤ◌, ◌≤ℤ◌, ◌<ℤ◌, nat_abs}
use Rattle.std.proofs.lemmas.Int.{ints}
use Rattle.std.proofs.lemmas.Nat.Bits.{bit_at-zero}
use Rattle.std.proofs.lemmas.Bool.Decides.{leb_tells}
use Rattle.std.specs.Int.{bit_at}
use Rattle.fz_bits.specs.Words.{HasBit, AreOnes}
use Rattle.fz_bits.specs.Windows.{IsBit}

pub none_in : (base x : ℤ) → IsBit base 0 x → ⊥
none_in base x m = let z = bit_at-zero m.0 in let b = m.3 in omega (arith, z, b)

pub all_in : (base x : ℤ) (bits : ℕ) → AreOnes bits (λ k. (0 ≤ k) × (k ≤ 63)) → IsBit base bits x ↔ ((base ≤ℤ x) × (x ≤ℤ (base +ℤ pos 63)))
all_in base x bits f = (
  λ m. (let l = m.1 in let e = m.2 in (omega (arith, ints), omega (arith, ints))),
  λ h. (let low = h.0 in let high = h.1 in
      let i = nat_abs (x -ℤ base) in
      let e : x ≡ base +ℤ pos i = omega (arith, ints) in
      let l : i < 64 = omega (arith, ints) in
      (i, l, e, (f i l).1 (omega arith, omega (arith, l)))),
)

pub bit_in : (base x : ℤ) (bits place : ℕ) → x ≡ base +ℤ pos place → place < 64 → HasBit bits place ↔ IsBit base bits x
bit_in base x bits place e l = (
  λ b. (place, l, e, b),
  λ m. (let f = m.2 in let same : m.0 ≡ place = omega (arith, ints) in subst (λ (k : ℕ). HasBit bits k) same m.3),
)

pub below_base : (base x : ℤ) (bits : ℕ) → x <ℤ base → IsBit base bits x → ⊥
below_base base x bits below m = let e = m.2 in omega (arith, ints)

pub above_all : (base x : ℤ) (bits place : ℕ) → x ≡ base +ℤ pos place → 64 ≤ place → IsBit base bits x → ⊥
above_all base x bits place e above m = let f = m.2 in let l = m.1 in omega (arith, ints)

pub one_more : (base x number : ℤ) (bits more place : ℕ) → number ≡ base +ℤ pos place → place < 64 → AreOnes more (λ k. HasBit bits k ⊎ (k ≡ place))
    → IsBit base more x ↔ (IsBit base bits x ⊎ (x ≡ number))
one_more base x number bits more place e l f = (
  λ m. (let g = m.2 in elim ((f m.0 m.1).0 m.3) [ inl b ↦ inl (m.0, m.1, m.2, b) | inr same ↦ inr (omega (arith, ints, e, g, same)) ]),
  λ h. elim h [ inl m ↦ (m.0, m.1, m.2, (f m.0 m.1).1 (inl m.3)) | inr same ↦ (place, l, omega (arith, ints, e, same), (f place l).1 (inr refl)) ],
)

pub one_less : (base x number : ℤ) (bits less place : ℕ) → number ≡ base +ℤ pos place → place < 64 → AreOnes less (λ k. HasBit bits k × (k ≡ place → ⊥))
    → IsBit base less x ↔ (IsBit base bits x × (x ≡ number → ⊥))
one_less base x number bits less place e l f = (
  λ m. (let b = (f m.0 m.1).0 m.3 in let g = m.2 in ((m.0, m.1, m.2, b.0), λ same. b.1 (omega (arith, ints, e, g, same)))),
  λ h. (let m = h.0 in let g = m.2 in (m.0, m.1, m.2, (f m.0 m.1).1 (m.3, λ same. h.1 (omega (arith, ints, e, g, same))))),
)

pub none_below : (base x number : ℤ) (bits place : ℕ) → number ≡ base +ℤ pos place → ((k : ℕ) → k < place → bit_at bits k ≡ 0) → IsBit base bits x → number ≤ℤ x
none_below base x number bits place e none m = elim (leb_tells place m.0) [
  | inl t ↦ (let f = m.2 in let above = t.1 in omega (arith, ints, e, f, above))
  | inr t ↦ absurd (let z = none m.0 t.1 in let b = m.3 in omega (arith, z, b))
]

pub within_window : (base x : ℤ) (bits : ℕ) → IsBit base bits x → (base ≤ℤ x) × (x ≤ℤ (base +ℤ pos 63))
within_window base x bits m = let l = m.1 in let e = m.2 in (omega (arith, ints), omega (arith, ints))
