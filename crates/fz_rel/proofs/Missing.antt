-- Words that have no bit in common.
use Rattle.std.proofs.Common.{◌≡◌, ℕ, ◌<◌, ◌^◌, inl, inr, subst, sym}
use Rattle.std.specs.Prelude.{ℤ, pos, ◌+ℤ◌}
use Rattle.std.proofs.lemmas.Bool.{cases_eq}
use Rattle.fz_bits.specs.Words.{HasBit, AreOnes}
use Rattle.fz_bits.specs.Windows.{IsBit}
use Rattle.fz_prop.proofs.Partnering.{some_bit, no_bits}

-- a bit of a window that is among the numbers of a word is one of both
both_have : (base : ℤ) (bits word both : ℕ) (E : ℤ → Type 0) → AreOnes word (λ i. E (base +ℤ pos i)) → AreOnes both (λ k. HasBit bits k × HasBit word k) → (z : ℤ) → IsBit base bits z → E z → IsBit base both z
both_have base bits word both E wanted ones z is e = (is.0, is.1, is.2, (ones is.0 is.1).1 (is.3, (wanted is.0 is.1).1 (subst E is.2 e)))

pub none_if_zero : (base : ℤ) (bits word both : ℕ) (E : ℤ → Type 0) → AreOnes word (λ i. E (base +ℤ pos i)) → AreOnes both (λ k. HasBit bits k × HasBit word k) → both ≡ 0
    → (z : ℤ) → IsBit base bits z → E z → ⊥
none_if_zero base bits word both E wanted ones zero z is e = no_bits base both z zero (both_have base bits word both E wanted ones z is e)

pub zero_if_none : (base : ℤ) (bits word both : ℕ) (E : ℤ → Type 0) → AreOnes word (λ i. E (base +ℤ pos i)) → AreOnes both (λ k. HasBit bits k × HasBit word k) → both < 2 ^ 64
    → ((z : ℤ) → IsBit base bits z → E z → ⊥) → both ≡ 0
zero_if_none base bits word both E wanted ones fits none = elim (cases_eq both 0) [
  | inl zero ↦ zero
  | inr some ↦
      let bit = (some_bit base both some fits).1 in
      let z = (some_bit base both some fits).0 in
      let two = (ones bit.0 bit.1).0 bit.3 in
      absurd (none z (bit.0, bit.1, bit.2, two.0) (subst E (sym bit.2) ((wanted bit.0 bit.1).0 two.1)))
]
