-- The next number with a property, where words of 64 bits tell which have it.
use Rattle.std.proofs.Common.{◌≡◌, ℕ, ◌^◌, ◌+◌, ◌-◌, ◌*◌, ◌/◌, ◌%◌, ◌<◌, ◌≤◌, inl, inr, sym, subst, arith}
use Rattle.std.specs.Prelude.{Option, Some, None, MatchOption, ◌↔◌}
use Rattle.std.specs.Int.{bit_at}
use Rattle.std.proofs.lemmas.Bool.{cases_lt}
use Rattle.std.proofs.lemmas.Nat.Bits.{bit_at_above}
use Rattle.fz_bits.specs.Words.{HasBit, AreOnes}
use Rattle.fz_regular.specs.declared.bit_rows.BitRows.{BitRows}
use Rattle.fz_regular.specs.BitRows.{Has, HaveBoth, IsNext, word_at}
use Rattle.fz_regular.proofs.BitRows.{no_bit}

-- ---- a word

-- the bits of a word tell which numbers from one on have a property, as far as they stand in one word of 64
abbrev pub IsMoved : (ℕ → Type 0) → ℕ → ℕ → Type 0
IsMoved P from here = AreOnes here (λ k. (k + from % 64 < 64) × P (from + k))

moved_bit : (P : ℕ → Type 0) (from here j : ℕ) → IsMoved P from here → from ≤ j → j / 64 ≡ from / 64 → P j → HasBit here (j - from)
moved_bit P from here j moved above same has =
    let e : j ≡ from + (j - from) = omega (arith, above) in
    (moved (j - from) (omega (arith, above, same))).1 (omega (arith, above, same), subst (λ (i : ℕ). P i) e has)

pub next_here : (P : ℕ → Type 0) (from here s : ℕ) → IsMoved P from here → s < 64 → HasBit here s → ((k : ℕ) → k < s → bit_at here k ≡ 0) → IsNext P from (from + s)
next_here P from here s moved small bit none =
    let at = (moved s small).0 bit in
    let low = at.0 in
    record {
      at_least = omega arith;
      has = at.1;
      first = λ j above below has.
          let is = moved_bit P from here j moved above (omega (arith, low, above, below)) has in
          let zero = none (j - from) (omega (arith, above, below)) in
          omega (arith, is, zero);
    }

-- none has it in the rest of a word
none_here : (P : ℕ → Type 0) (from here j : ℕ) → IsMoved P from here → here ≡ 0 → from ≤ j → j / 64 ≡ from / 64 → P j → ⊥
none_here P from here j moved none above same has = no_bit (j - from) (subst (λ (w : ℕ). HasBit w (j - from)) none (moved_bit P from here j moved above same has))

next_later : (P : ℕ → Type 0) (from here s : ℕ) → IsMoved P from here → here ≡ 0 → IsNext P ((from / 64 + 1) * 64) s → IsNext P from s
next_later P from here s moved none next = record {
  at_least = (let least = next.at_least in omega (arith, least));
  has = next.has;
  first = λ j above below has. elim (cases_lt j ((from / 64 + 1) * 64)) [
    | inl small ↦ none_here P from here j moved none above (omega (arith, above, small)) has
    | inr large ↦ next.first j large below has
  ];
}

none_later : (P : ℕ → Type 0) (from here : ℕ) → IsMoved P from here → here ≡ 0 → ((j : ℕ) → (from / 64 + 1) * 64 ≤ j → P j → ⊥) → (j : ℕ) → from ≤ j → P j → ⊥
none_later P from here moved none after j above has = elim (cases_lt j ((from / 64 + 1) * 64)) [
  | inl small ↦ none_here P from here j moved none above (omega (arith, above, small)) has
  | inr large ↦ after j large has
]

pub next_or : (P : ℕ → Type 0) (from here : ℕ) (o : Option ℕ) → IsMoved P from here → here ≡ 0
    → MatchOption o ((j : ℕ) → (from / 64 + 1) * 64 ≤ j → P j → ⊥) (λ s. IsNext P ((from / 64 + 1) * 64) s)
    → MatchOption o ((j : ℕ) → from ≤ j → P j → ⊥) (λ s. IsNext P from s)
next_or P from here None moved none h = none_later P from here moved none h
next_or P from here (Some s) moved none h = next_later P from here s moved none h

-- by another property that says the same
pub next_as : (P Q : ℕ → Type 0) (from : ℕ) (o : Option ℕ) → ((k : ℕ) → P k ↔ Q k) → MatchOption o ((k : ℕ) → from ≤ k → P k → ⊥) (λ k. IsNext P from k)
    → MatchOption o ((k : ℕ) → from ≤ k → Q k → ⊥) (λ k. IsNext Q from k)
next_as P Q from None same h = λ k above has. h k above ((same k).1 has)
next_as P Q from (Some s) same h = record { at_least = h.at_least; has = (same s).0 h.has; first = λ j above below has. h.first j above below ((same j).1 has) }

-- ---- word by word

-- none has it in the words from one to another
abbrev pub AreClear : (ℕ → Type 0) → ℕ → ℕ → Type 0
AreClear P first place = (j : ℕ) → first * 64 ≤ j → j < place * 64 → P j → ⊥

pub clear_more : (P : ℕ → Type 0) (first place word : ℕ) → IsMoved P (place * 64) word → word ≡ 0 → AreClear P first place → AreClear P first (place + 1)
clear_more P first place word moved none h j above below has = elim (cases_lt j (place * 64)) [
  | inl small ↦ h j above small has
  | inr large ↦ none_here P (place * 64) word j moved none large (omega (arith, large, below)) has
]

pub next_clear : (P : ℕ → Type 0) (first place s : ℕ) → first ≤ place → AreClear P first place → IsNext P (place * 64) s → IsNext P (first * 64) s
next_clear P first place s before clear next = record {
  at_least = (let least = next.at_least in omega (arith, least, before));
  has = next.has;
  first = λ j above below has. elim (cases_lt j (place * 64)) [
    | inl small ↦ clear j above small has
    | inr large ↦ next.first j large below has
  ];
}

-- ---- the words of rows

-- a bit of a word is one of 64
bit_below : (word k : ℕ) → word < 2 ^ 64 → HasBit word k → k < 64
bit_below word k fits has = elim (cases_lt k 64) [ inl low ↦ low | inr high ↦ (let zero = bit_at_above word 64 k fits high in absurd (omega (arith, zero, has))) ]

has_past : (b : BitRows) (row from k : ℕ) → from / 64 < b.width → k + from % 64 < 64 → Has b row (from + k) ↔ HasBit (word_at b row (from / 64)) (k + from % 64)
has_past b row from k inside low =
    let same : (from + k) / 64 ≡ from / 64 = omega (arith, low) in
    let place : (from + k) % 64 ≡ k + from % 64 = omega (arith, low) in (
      (λ h. subst (λ (w : ℕ). HasBit (word_at b row w) (k + from % 64)) same (subst (λ (i : ℕ). HasBit (word_at b row ((from + k) / 64)) i) place h.1)),
      (λ bit. (omega (arith, same, inside), subst (λ (w : ℕ). HasBit (word_at b row w) ((from + k) % 64)) (sym same) (subst (λ (i : ℕ). HasBit (word_at b row (from / 64)) i) (sym place) bit))),
    )

-- what two words of rows have in common, moved down
pub moved_common : (b c : BitRows) (row other from both here : ℕ) → from / 64 < b.width → from / 64 < c.width → both < 2 ^ 64
    → AreOnes both (λ k. HasBit (word_at b row (from / 64)) k × HasBit (word_at c other (from / 64)) k) → AreOnes here (λ k. HasBit both (k + from % 64)) → IsMoved (HaveBoth b row c other) from here
moved_common b c row other from both here first second fits common moved k small = (
  (λ bit.
      let at = (moved k small).0 bit in
      let low = bit_below both (k + from % 64) fits at in
      let ones = (common (k + from % 64) low).0 at in
      (low, ((has_past b row from k first low).1 ones.0, (has_past c other from k second low).1 ones.1))),
  (λ w. (moved k small).1 ((common (k + from % 64) w.0).1 ((has_past b row from k first w.0).0 w.1.0, (has_past c other from k second w.0).0 w.1.1))),
)

-- the words at a place
pub moved_whole : (b c : BitRows) (row other place word : ℕ) → place < b.width → place < c.width → AreOnes word (λ k. HasBit (word_at b row place) k × HasBit (word_at c other place) k)
    → IsMoved (HaveBoth b row c other) (place * 64) word
moved_whole b c row other place word first second common k small =
    let at : (place * 64) / 64 ≡ place = omega arith in
    let rest : k + (place * 64) % 64 ≡ k = omega arith in
    let low : k + (place * 64) % 64 < 64 = omega (arith, rest, small) in
    let left : Has b row (place * 64 + k) ↔ HasBit (word_at b row place) k =
    subst (λ (i : ℕ). Has b row (place * 64 + k) ↔ HasBit (word_at b row place) i) rest
    (subst (λ (w : ℕ). Has b row (place * 64 + k) ↔ HasBit (word_at b row w) (k + (place * 64) % 64)) at (has_past b row (place * 64) k (omega (arith, at, first)) low)) in
    let right : Has c other (place * 64 + k) ↔ HasBit (word_at c other place) k =
    subst (λ (i : ℕ). Has c other (place * 64 + k) ↔ HasBit (word_at c other place) i) rest
    (subst (λ (w : ℕ). Has c other (place * 64 + k) ↔ HasBit (word_at c other w) (k + (place * 64) % 64)) at (has_past c other (place * 64) k (omega (arith, at, second)) low)) in (
      (λ bit. let ones = (common k small).0 bit in (low, (left.1 ones.0, right.1 ones.1))),
      (λ w. (common k small).1 (left.0 w.1.0, right.0 w.1.1)),
    )
