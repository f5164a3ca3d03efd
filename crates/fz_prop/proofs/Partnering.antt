-- The numbers that have a partner, first number by first number.
use Rattle.std.proofs.Common.{◌≡◌, ℕ, ◌<◌, ◌^◌, ◌⊎◌, inl, inr, refl, sym, subst, arith}
use Rattle.std.specs.Prelude.{◌↔◌, ℤ, pos, ◌+ℤ◌}
use Rattle.std.proofs.lemmas.Int.{ints}
use Rattle.fz_bits.specs.Words.{HasBit, AreOnes}
use Rattle.fz_bits.specs.Windows.{IsBit}
use Rattle.std.specs.Int.{w64, trailing_zeros}
use Rattle.fz_bits.proofs.Words.{first_bit, positive}
use Rattle.fz_bits.proofs.Windows.{none_in}
use Rattle.fz_prop.proofs.Grown.{same_or_other}
use Rattle.fz_prop.specs.Matching.{IsPairOf, AreMatching}

-- ---- the loop

-- the pairs whose first number isn't one of those to come
pub record AreMatchingBut (R : ℤ → ℤ → Type 0) (D E Left P Q : ℤ → Type 0) : Type 0 where
  pub among : (n : ℤ) → Left n → D n
  pub firsts : (n : ℤ) → P n ↔ ((m : ℤ) × IsPairOf R D E n m × (Left n → ⊥))
  pub seconds : (m : ℤ) → Q m ↔ ((n : ℤ) × IsPairOf R D E n m × (Left n → ⊥))

pub but_all : (R : ℤ → ℤ → Type 0) (D E P Q : ℤ → Type 0) → ((n : ℤ) → P n → ⊥) → ((m : ℤ) → Q m → ⊥) → AreMatchingBut R D E D P Q
but_all R D E P Q none_p none_q = record {
  among = λ n left. left;
  firsts = λ n. ((λ is. absurd (none_p n is)), (λ h. absurd (h.2 h.1.first)));
  seconds = λ m. ((λ is. absurd (none_q m is)), (λ h. absurd (h.2 h.1.first)));
}

-- one that has no partner
pub but_none : (R : ℤ → ℤ → Type 0) (D E Left Next P Q : ℤ → Type 0) (j : ℤ) → ((n : ℤ) → Next n ↔ (Left n × (n ≡ j → ⊥))) → ((m : ℤ) → R j m → E m → ⊥)
    → AreMatchingBut R D E Left P Q → AreMatchingBut R D E Next P Q
but_none R D E Left Next P Q j next none h =
    let gone : (n m : ℤ) → IsPairOf R D E n m → (Next n → ⊥) → Left n → ⊥ = λ n m p not left. elim (same_or_other n j) [
      | inl same ↦ none m (subst (λ (i : ℤ). R i m) same p.partners) p.second
      | inr other ↦ not ((next n).1 (left, other))
    ] in
    record {
      among = λ n is. h.among n ((next n).0 is).0;
      firsts = λ n. (
        (λ is. let p = (h.firsts n).0 is in (p.0, p.1, λ still. p.2 ((next n).0 still).0)),
        (λ p. (h.firsts n).1 (p.0, p.1, gone n p.0 p.1 p.2)),
      );
      seconds = λ m. (
        (λ is. let p = (h.seconds m).0 is in (p.0, p.1, λ still. p.2 ((next p.0).0 still).0)),
        (λ p. (h.seconds m).1 (p.0, p.1, gone p.0 m p.1 p.2)),
      );
    }

-- one that has these partners
pub but_more : (R : ℤ → ℤ → Type 0) (D E Left Next P Q C S T : ℤ → Type 0) (j : ℤ) → Left j → ((n : ℤ) → Next n ↔ (Left n × (n ≡ j → ⊥)))
    → ((m : ℤ) → C m ↔ (R j m × E m)) → ((m : ℤ) × C m) → ((n : ℤ) → S n ↔ (P n ⊎ (n ≡ j))) → ((m : ℤ) → T m ↔ (Q m ⊎ C m))
    → AreMatchingBut R D E Left P Q → AreMatchingBut R D E Next S T
but_more R D E Left Next P Q C S T j here next are some more_p more_q h =
    let pair : (m : ℤ) → C m → IsPairOf R D E j m = λ m is. record { partners = ((are m).0 is).0; first = h.among j here; second = ((are m).0 is).1 } in
    let gone : Next j → ⊥ = λ is. ((next j).0 is).1 refl in
    record {
      among = λ n is. h.among n ((next n).0 is).0;
      firsts = λ n. (
        (λ is. elim ((more_p n).0 is) [
          | inl before ↦ let p = (h.firsts n).0 before in (p.0, p.1, λ still. p.2 ((next n).0 still).0)
          | inr same ↦ (some.0, subst (λ (i : ℤ). IsPairOf R D E i some.0) (sym same) (pair some.0 some.1), λ still. ((next n).0 still).1 same)
        ]),
        (λ p. (more_p n).1 (elim (same_or_other n j) [
          | inl same ↦ inr same
          | inr other ↦ inl ((h.firsts n).1 (p.0, p.1, λ left. p.2 ((next n).1 (left, other))))
        ])),
      );
      seconds = λ m. (
        (λ is. elim ((more_q m).0 is) [
          | inl before ↦ let p = (h.seconds m).0 before in (p.0, p.1, λ still. p.2 ((next p.0).0 still).0)
          | inr c ↦ (j, pair m c, gone)
        ]),
        (λ p. (more_q m).1 (elim (same_or_other p.0 j) [
          | inl same ↦ inr ((are m).1 (subst (λ (i : ℤ). R i m) same p.1.partners, p.1.second))
          | inr other ↦ inl ((h.seconds m).1 (p.0, p.1, λ left. p.2 ((next p.0).1 (left, other))))
        ])),
      );
    }

pub but_nothing : (R : ℤ → ℤ → Type 0) (D E Left P Q : ℤ → Type 0) → ((n : ℤ) → Left n → ⊥) → AreMatchingBut R D E Left P Q → AreMatching R D E P Q
but_nothing R D E Left P Q none h = record {
  firsts = λ n. ((λ is. let p = (h.firsts n).0 is in (p.0, p.1)), (λ p. (h.firsts n).1 (p.0, p.1, none n)));
  seconds = λ m. ((λ is. let p = (h.seconds m).0 is in (p.0, p.1)), (λ p. (h.seconds m).1 (p.0, p.1, none p.0)));
}

-- the same pairs, said in another way
pub matching_as : (R : ℤ → ℤ → Type 0) (D E P Q : ℤ → Type 0) (M : ℤ → ℤ → Type 0) → ((n m : ℤ) → IsPairOf R D E n m ↔ M n m) → AreMatching R D E P Q
    → ((n : ℤ) → P n ↔ ((m : ℤ) × M n m)) × ((m : ℤ) → Q m ↔ ((n : ℤ) × M n m))
matching_as R D E P Q M same h = (
  (λ n. ((λ is. let p = (h.firsts n).0 is in (p.0, (same n p.0).0 p.1)), (λ p. (h.firsts n).1 (p.0, (same n p.0).1 p.1)))),
  (λ m. ((λ is. let p = (h.seconds m).0 is in (p.0, (same p.0 m).0 p.1)), (λ p. (h.seconds m).1 (p.0, (same p.0 m).1 p.1)))),
)

-- ---- words of one base

pub both_bits : (base : ℤ) (a b both : ℕ) → AreOnes both (λ k. HasBit a k × HasBit b k) → (m : ℤ) → IsBit base both m ↔ (IsBit base a m × IsBit base b m)
both_bits base a b both ones m = (
  (λ is. let two = (ones is.0 is.1).0 is.3 in ((is.0, is.1, is.2, two.0), (is.0, is.1, is.2, two.1))),
  (λ h.
      let one = h.0 in
      let other = h.1 in
      let at = one.2 in
      let same : other.0 ≡ one.0 = omega (arith, ints, at, other.2) in
      (one.0, one.1, one.2, (ones one.0 one.1).1 (one.3, subst (λ (k : ℕ). HasBit b k) same other.3))),
)

-- where one of them has the numbers with a property
pub bits_with : (base : ℤ) (a b both : ℕ) (S : ℤ → Type 0) → AreOnes a (λ k. S (base +ℤ pos k)) → AreOnes both (λ k. HasBit a k × HasBit b k)
    → (m : ℤ) → IsBit base both m ↔ (S m × IsBit base b m)
bits_with base a b both S wanted ones m = (
  (λ is. let two = (ones is.0 is.1).0 is.3 in (subst S (sym is.2) ((wanted is.0 is.1).0 two.0), (is.0, is.1, is.2, two.1))),
  (λ h. let is = h.1 in (is.0, is.1, is.2, (ones is.0 is.1).1 ((wanted is.0 is.1).1 (subst S is.2 h.0), is.3))),
)

pub either_bits : (base : ℤ) (a b one : ℕ) → AreOnes one (λ k. HasBit a k ⊎ HasBit b k) → (m : ℤ) → IsBit base one m ↔ (IsBit base a m ⊎ IsBit base b m)
either_bits base a b one ones m = (
  (λ is. elim ((ones is.0 is.1).0 is.3) [ inl h ↦ inl (is.0, is.1, is.2, h) | inr h ↦ inr (is.0, is.1, is.2, h) ]),
  (λ h. elim h [ inl is ↦ (is.0, is.1, is.2, (ones is.0 is.1).1 (inl is.3)) | inr is ↦ (is.0, is.1, is.2, (ones is.0 is.1).1 (inr is.3)) ]),
)

pub some_bit : (base : ℤ) (word : ℕ) → (word ≡ 0 → ⊥) → word < 2 ^ 64 → (m : ℤ) × IsBit base word m
some_bit base word some fits =
    let first = first_bit word (positive word some) fits in
    let k = trailing_zeros w64 word in
    (base +ℤ pos k, (k, first.0, refl, first.1))

pub no_bits : (base : ℤ) (word : ℕ) (m : ℤ) → word ≡ 0 → IsBit base word m → ⊥
no_bits base word m none bit = none_in base m (subst (λ (w : ℕ). IsBit base w m) none bit)
