-- The numbers of a row, as ranges and as a window.
use Rattle.std.proofs.Common.{◌≡◌, ℕ, ◌+◌, ◌/◌, ◌%◌, ◌<◌, ◌≤◌, List, [], ◌∷◌, ◌++◌, inl, inr, sym, ap, subst, ◌∙◌, arith}
use Rattle.std.specs.Prelude.{ℤ, pos, ◌↔◌}
use Rattle.std.proofs.lemmas.Bool.{cases_lt}
use Rattle.std.proofs.lemmas.Int.{ints}
use Rattle.fz_sets.specs.Sets.{IsInSet}
use Rattle.fz_bits.specs.Words.{HasBit}
use Rattle.fz_bits.specs.Windows.{IsBit}
use Rattle.fz_prop.proofs.Grown.{in_more, in_before, in_last}
use Rattle.fz_regular.specs.declared.bit_rows.BitRows.{BitRows}
use Rattle.fz_regular.specs.BitRows.{Has, IsNext, word_at}
use Rattle.fz_regular.specs.Runs.{number, IsInRow}
use Rattle.fz_regular.proofs.Gathering.{below_next}

-- the ranges have the numbers of the symbols of a row below one
abbrev pub AreNumbersBelow : BitRows → ℕ → ℕ → List (ℤ × ℤ) → Type 0
AreNumbersBelow b row from ranges = (n : ℤ) → IsInSet ranges n ↔ ((k : ℕ) × (k < from) × Has b row k × (n ≡ number k))

pub numbers_none : (b : BitRows) (row : ℕ) → AreNumbersBelow b row 0 []
numbers_none b row n = ((λ h. absurd h), (λ w. let below = w.1 in absurd (omega (arith, below))))

pub numbers_more : (b : BitRows) (row from s : ℕ) (x : ℤ) (ranges : List (ℤ × ℤ)) → x ≡ number s → IsNext (Has b row) from s → AreNumbersBelow b row from ranges
    → AreNumbersBelow b row (s + 1) (ranges ++ (x, x) ∷ [])
numbers_more b row from s x ranges is next h n = (
  (λ has. elim (in_more ranges x n has) [
    | inl was ↦ let w = (h n).0 was in let below = w.1 in let least = next.at_least in (w.0, omega (arith, below, least), w.2, w.3)
    | inr e ↦ (s, omega arith, next.has, e ∙ is)
  ]),
  (λ w. elim (below_next (Has b row) from s w.0 next w.1 w.2) [
    | inl below ↦ in_before ranges x n ((h n).1 (w.0, below, w.2, w.3))
    | inr e ↦ in_last ranges x n (w.3 ∙ ap (λ (k : ℕ). number k) e ∙ sym is)
  ]),
)

pub numbers_all : (b : BitRows) (row from : ℕ) (ranges : List (ℤ × ℤ)) → ((k : ℕ) → from ≤ k → Has b row k → ⊥) → AreNumbersBelow b row from ranges → (n : ℤ) → IsInSet ranges n ↔ IsInRow b row n
numbers_all b row from ranges none h n = (
  (λ has. let w = (h n).0 has in (w.0, w.3, w.2)),
  (λ w. elim (cases_lt w.0 from) [
    | inl below ↦ (h n).1 (w.0, below, w.2, w.1)
    | inr above ↦ absurd (none w.0 above w.2)
  ]),
)

-- the numbers of a row of one word
pub window_row : (b : BitRows) (row bits : ℕ) → b.width ≡ 1 → bits ≡ word_at b row 0 → (n : ℤ) → IsBit (pos 1) bits n ↔ IsInRow b row n
window_row b row bits one is n = (
  (λ w.
      let small = w.1 in
      let e = w.2 in
      let low : w.0 / 64 ≡ 0 = omega (arith, small) in
      let rest : w.0 % 64 ≡ w.0 = omega (arith, small) in
      let bit : HasBit (word_at b row 0) w.0 = subst (λ (v : ℕ). HasBit v w.0) is w.3 in
      let here : HasBit (word_at b row 0) (w.0 % 64) = subst (λ (k : ℕ). HasBit (word_at b row 0) k) (sym rest) bit in
      (w.0, omega (arith, ints, e), (omega (arith, low, one), subst (λ (p : ℕ). HasBit (word_at b row p) (w.0 % 64)) (sym low) here))),
  (λ w.
      let inside = w.2.0 in
      let e = w.1 in
      let low : w.0 / 64 ≡ 0 = omega (arith, inside, one) in
      let rest : w.0 % 64 ≡ w.0 = omega (arith, low) in
      let here : HasBit (word_at b row 0) (w.0 % 64) = subst (λ (p : ℕ). HasBit (word_at b row p) (w.0 % 64)) low w.2.1 in
      let bit : HasBit (word_at b row 0) w.0 = subst (λ (k : ℕ). HasBit (word_at b row 0) k) rest here in
      (w.0, omega (arith, low), omega (arith, ints, e), subst (λ (v : ℕ). HasBit v w.0) (sym is) bit)),
)
