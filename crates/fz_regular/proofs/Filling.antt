-- Rows of symbols that are filled word by word, term by term.
use Rattle.std.proofs.Common.{◌≡◌, ℕ, ◌+◌, ◌*◌, ◌/◌, ◌%◌, ◌<◌, ◌≤◌, List, inl, inr, sym, subst, arith, length}
use Rattle.std.specs.Prelude.{ℤ, pos, ◌+ℤ◌, slice_get, Some, ◌↔◌}
use Rattle.std.proofs.lemmas.Bool.{cases_eq}
use Rattle.std.proofs.lemmas.Int.{ints}
use Rattle.fz_sets.specs.Sets.{IsInSet}
use Rattle.fz_bits.specs.Words.{HasBit, AreOnes}
use Rattle.fz_spec.specs.declared.term.Term.{Term}
use Rattle.fz_spec.specs.Truth.{Automaton, IsState, IsSymbol}
use Rattle.fz_strength.specs.Domains.{term_set}
use Rattle.fz_regular.specs.declared.bit_rows.BitRows.{BitRows}
use Rattle.fz_regular.specs.BitRows.{Has, width_for}
use Rattle.fz_regular.specs.Layers.{FitsStates}
use Rattle.fz_regular.specs.Runs.{number, AllowsLeft, IsLeftAt}

-- ---- a row

-- in the first words of a row, so many, stand the symbols of the numbers of a set
abbrev pub AreFilledTo : BitRows → ℕ → ℕ → List (ℤ × ℤ) → Type 0
AreFilledTo b row place set = (k : ℕ) → k / 64 < place → Has b row k ↔ IsInSet set (number k)

pub filled_more : (old new : BitRows) (row place bits : ℕ) (base : ℤ) (set : List (ℤ × ℤ)) → base ≡ number (place * 64) → AreOnes bits (λ j. IsInSet set (base +ℤ pos j))
    → ((k : ℕ) → k / 64 ≡ place → Has new row k ↔ HasBit bits (k % 64)) → ((i k : ℕ) → ((i ≡ row) × (k / 64 ≡ place) → ⊥) → Has new i k ↔ Has old i k)
    → AreFilledTo old row place set → AreFilledTo new row (place + 1) set
filled_more old new row place bits base set is ones here others h k below = elim (cases_eq (k / 64) place) [
  | inl e ↦
      let at : (base +ℤ pos (k % 64)) ≡ number k = omega (arith, ints, is, e) in
      let bit = ones (k % 64) (omega arith) in
      subst (λ (n : ℤ). Has new row k ↔ IsInSet set n) at ((λ has. bit.0 ((here k e).0 has)), (λ in_set. (here k e).1 (bit.1 in_set)))
  | inr ne ↦
      let same = others row k (λ both. ne both.1) in
      let was = h k (omega (arith, below, ne)) in
      ((λ has. was.0 (same.0 has)), (λ in_set. same.1 (was.1 in_set)))
]

-- ---- all rows

-- in the first rows, so many, stand the symbols that are left of their terms
abbrev pub AreLeftTo : List Term → List (List (ℤ × ℤ)) → BitRows → ℕ → Type 0
AreLeftTo xs ds b place = (i k : ℕ) → i < place → k / 64 < b.width → Has b i k ↔ IsLeftAt xs ds i (number k)

pub left_more : (xs : List Term) (ds : List (List (ℤ × ℤ))) (old new : BitRows) (place : ℕ) (t : Term) → slice_get xs place ≡ Some t → new.width ≡ old.width
    → ((k : ℕ) → k / 64 < old.width → Has new place k ↔ IsInSet (term_set ds t) (number k)) → ((i k : ℕ) → (i ≡ place → ⊥) → Has new i k ↔ Has old i k)
    → AreLeftTo xs ds old place → AreLeftTo xs ds new (place + 1)
left_more xs ds old new place t at same here others h i k below inside =
    let small : k / 64 < old.width = omega (arith, same, inside) in
    elim (cases_eq i place) [
      | inl e ↦
          let row = here k small in
          subst (λ (j : ℕ). Has new j k ↔ IsLeftAt xs ds j (number k)) (sym e)
          ((λ has. (t, at, row.0 has)), (λ left. let is : left.0 ≡ t = cc (left.1, at) in row.1 (subst (λ (u : Term). IsInSet (term_set ds u) (number k)) is left.2)))
      | inr ne ↦
          let was = h i k (omega (arith, below, ne)) small in
          let still = others i k ne in
          ((λ has. was.0 (still.0 has)), (λ left. still.1 (was.1 left)))
    ]

-- each symbol has a bit where there are as many bits as symbols, and each state where there are as many as states
bit_fits : (k count width : ℕ) → width ≡ width_for count → k < count → k / 64 < width
bit_fits k count width wide below = omega (arith, wide, below)

pub left_all : (a : Automaton) (xs : List Term) (ds : List (List (ℤ × ℤ))) (b : BitRows) (symbols place : ℕ) → b.width ≡ width_for symbols → ((k : ℕ) → IsSymbol a (number k) ↔ (k < symbols)) → length xs ≤ place
    → AreLeftTo xs ds b place → AllowsLeft a xs ds (Has b)
left_all a xs ds b symbols place wide are end h i k inside symbol = h i k (omega (arith, inside, end)) (bit_fits k symbols b.width wide ((are k).0 symbol))

pub fits_states : (a : Automaton) (b : BitRows) (states : ℕ) → b.width ≡ width_for states → ((k : ℕ) → IsState a (number k) ↔ (k < states)) → FitsStates a b
fits_states a b states wide are k state = bit_fits k states b.width wide ((are k).0 state)
