-- How what is left of a term lies to the values of a cover, by the bits of words.
use Rattle.std.proofs.Common.{◌≡◌, ℕ, ◌<◌, ◌^◌, ◌⊎◌, inl, inr, refl, subst, arith, List, w64}
use Rattle.std.specs.Prelude.{ℤ, pos, ◌+ℤ◌, ◌-ℤ◌, ◌≤ℤ◌, ◌<ℤ◌, nat_abs}
use Rattle.std.specs.Int.{bit_at, trailing_zeros}
use Rattle.std.proofs.lemmas.Bool.{cases_eq}
use Rattle.std.proofs.lemmas.Int.{ints}
use Rattle.fz_bits.specs.Words.{HasBit, AreOnes}
use Rattle.fz_bits.specs.Windows.{IsBit}
use Rattle.fz_bits.proofs.Windows.{none_in, bit_in, within_window}
use Rattle.fz_bits.proofs.Words.{first_bit, positive}
use Rattle.fz_sets.specs.Sets.{IsInSet}

-- ---- a set by its word from a base on, and a window of this base

-- no bit is in both
pub none_common : (d : List (ℤ × ℤ)) (base : ℤ) (left bits both : ℕ) → AreOnes left (λ j. IsInSet d (base +ℤ pos j)) → AreOnes both (λ k. HasBit left k × HasBit bits k) → both ≡ 0 → (x : ℤ) → IsInSet d x
    → IsBit base bits x → ⊥
none_common d base left bits both lefts boths none x is value =
    let i = value.0 in
    let here : HasBit left i = (lefts i value.1).1 (subst (IsInSet d) value.2 is) in
    none_in base x (subst (λ (w : ℕ). IsBit base w x) none (i, value.1, value.2, (boths i value.1).1 (here, value.3)))

-- one is
pub some_common : (d : List (ℤ × ℤ)) (base : ℤ) (left bits both : ℕ) → AreOnes left (λ j. IsInSet d (base +ℤ pos j)) → AreOnes both (λ k. HasBit left k × HasBit bits k) → both < 2 ^ 64 → (both ≡ 0 → ⊥)
    → ((x : ℤ) → IsInSet d x → IsBit base bits x → ⊥) → ⊥
some_common d base left bits both lefts boths fits some none =
    let first = first_bit both (positive both some) fits in
    let i = trailing_zeros w64 both in
    let two = (boths i first.0).0 first.1 in
    none (base +ℤ pos i) ((lefts i first.0).0 two.0) (i, first.0, refl, two.1)

-- all bits of the set are the window's
pub bit_kept : (bits i : ℕ) → (HasBit bits i → ⊥) ⊎ HasBit bits i
bit_kept bits i = elim (cases_eq (bit_at bits i) 1) [ inl is ↦ inr is | inr other ↦ inl other ]

pub none_without : (d : List (ℤ × ℤ)) (base low high : ℤ) (left bits rest : ℕ) → AreOnes left (λ j. IsInSet d (base +ℤ pos j)) → AreOnes rest (λ k. HasBit left k × (HasBit bits k → ⊥)) → rest ≡ 0
    → ((x : ℤ) → IsInSet d x → low ≤ℤ x) → ((x : ℤ) → IsInSet d x → x ≤ℤ high) → base ≤ℤ low → high ≤ℤ (base +ℤ pos 63) → (x : ℤ) → IsInSet d x → IsBit base bits x
none_without d base low high left bits rest lefts rests none from to bottom top x is =
    let f = from x is in
    let t = to x is in
    let i = nat_abs (x -ℤ base) in
    let e : x ≡ base +ℤ pos i = omega (arith, ints) in
    let l : i < 64 = omega (arith, ints) in
    let here : HasBit left i = (lefts i l).1 (subst (IsInSet d) e is) in
    elim (bit_kept bits i) [
      | inl not ↦ absurd (none_in base x (subst (λ (w : ℕ). IsBit base w x) none (i, l, e, (rests i l).1 (here, not))))
      | inr has ↦ (i, l, e, has)
    ]

-- one isn't
pub some_without : (d : List (ℤ × ℤ)) (base : ℤ) (left bits rest : ℕ) → AreOnes left (λ j. IsInSet d (base +ℤ pos j)) → AreOnes rest (λ k. HasBit left k × (HasBit bits k → ⊥)) → rest < 2 ^ 64 → (rest ≡ 0 → ⊥)
    → ((x : ℤ) → IsInSet d x → IsBit base bits x) → ⊥
some_without d base left bits rest lefts rests fits some all =
    let first = first_bit rest (positive rest some) fits in
    let i = trailing_zeros w64 rest in
    let two = (rests i first.0).0 first.1 in
    let value = all (base +ℤ pos i) ((lefts i first.0).0 two.0) in
    two.1 ((bit_in base (base +ℤ pos i) bits i refl first.0).1 value)

-- one lies below it, or above
pub some_below : (d : List (ℤ × ℤ)) (base x : ℤ) (bits : ℕ) → IsInSet d x → x <ℤ base → ((y : ℤ) → IsInSet d y → IsBit base bits y) → ⊥
some_below d base x bits is below all = let within = within_window base x bits (all x is) in let from = within.0 in omega (arith, ints, from, below)

pub some_above : (d : List (ℤ × ℤ)) (base x : ℤ) (bits : ℕ) → IsInSet d x → (base +ℤ pos 63) <ℤ x → ((y : ℤ) → IsInSet d y → IsBit base bits y) → ⊥
some_above d base x bits is above all = let within = within_window base x bits (all x is) in let to = within.1 in omega (arith, ints, to, above)
