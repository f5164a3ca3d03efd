-- Words of partners, row by row.
use Rattle.std.proofs.Common.{◌≡◌, ◌<◌, ◌+◌, ◌*◌, ◌/◌, ℕ, zero, suc, List, refl, sym, subst, ◌∙◌, ap, arith, length, ◌⊎◌, inl, inr, get_or, set, pos, replicate}
use Rattle.std.specs.Prelude.{ℤ, ◌↔◌, ◌+ℤ◌, slice_get, Some}
use Rattle.std.proofs.lemmas.Bool.{cases_eq}
use Rattle.std.proofs.lemmas.Int.{ints}
use Rattle.std.proofs.lemmas.List.{get_or-set_same, get_or-set_other}
use Rattle.fz_bits.specs.Words.{HasBit, AreOnes}
use Rattle.fz_bits.specs.Windows.{IsBit}
use Rattle.fz_bits.proofs.Windows.{none_in}
use Rattle.fz_table.specs.declared.pairs.Pairs.{Pairs}
use Rattle.fz_prop.specs.Matching.{HasRoom}
use Rattle.fz_table.specs.Partners.{ArePartners, ArePairsOf}

-- the word of a number has its partners
pub partners_word : (pairs : Pairs) (number : ℤ) (place word : ℕ) → place < 64 → number ≡ pairs.first +ℤ pos place → word ≡ get_or pairs.words.items place 0
    → (m : ℤ) → IsBit pairs.base word m ↔ ArePartners pairs number m
partners_word pairs number place word small is same m = (
  (λ bit. (place, small, is, subst (λ (w : ℕ). IsBit pairs.base w m) same bit)),
  (λ p.
      let at = p.2 in
      let e : p.0 ≡ place = omega (arith, ints, at, is) in
      subst (λ (w : ℕ). IsBit pairs.base w m) (ap (λ (k : ℕ). get_or pairs.words.items k 0) e ∙ sym same) p.3),
)

pub partners_nowhere : (pairs : Pairs) (number : ℤ) → ((k : ℕ) → k < 64 → number ≡ pairs.first +ℤ pos k → ⊥) → (m : ℤ) → IsBit pairs.base 0 m ↔ ArePartners pairs number m
partners_nowhere pairs number none m = ((λ bit. absurd (none_in pairs.base m bit)), (λ p. absurd (none p.0 p.1 p.2)))

-- ---- one row more

pub partners_more : (old new : Pairs) (place bit word : ℕ) (x y : ℤ) → place < 64 → place < length old.words.items → x ≡ old.first +ℤ pos place → bit < 64 → y ≡ old.base +ℤ pos bit
    → AreOnes word (λ k. HasBit (get_or old.words.items place 0) k ⊎ (k ≡ bit)) → new.first ≡ old.first → new.base ≡ old.base → new.words.items ≡ set old.words.items place word
    → (n m : ℤ) → ArePartners new n m ↔ (ArePartners old n m ⊎ ((n ≡ x) × (m ≡ y)))
partners_more old new place bit word x y small inside is_x small_bit is_y ones same_first same_base same_words n m =
    let ws = old.words.items in
    let now : (k : ℕ) → get_or new.words.items k 0 ≡ get_or (set ws place word) k 0 = λ k. ap (λ (xs : List ℕ). get_or xs k 0) same_words in
    let here : get_or new.words.items place 0 ≡ word = now place ∙ get_or-set_same ws place word 0 inside in
    let other : (k : ℕ) → (k ≡ place → ⊥) → get_or new.words.items k 0 ≡ get_or ws k 0 = λ k ne. now k ∙ get_or-set_other ws place k word 0 ne in (
      (λ p.
          let is_n : n ≡ old.first +ℤ pos p.0 = subst (λ (f : ℤ). n ≡ f +ℤ pos p.0) same_first p.2 in
          let has : IsBit old.base (get_or new.words.items p.0 0) m = subst (λ (b : ℤ). IsBit b (get_or new.words.items p.0 0) m) same_base p.3 in
          elim (cases_eq p.0 place) [
            | inl e ↦
                let at = subst (λ (w : ℕ). IsBit old.base w m) (ap (λ (k : ℕ). get_or new.words.items k 0) e ∙ here) has in
                elim ((ones at.0 at.1).0 at.3) [
                  | inl was ↦ inl (place, small, subst (λ (k : ℕ). n ≡ old.first +ℤ pos k) e is_n, (at.0, at.1, at.2, was))
                  | inr b ↦ inr (subst (λ (k : ℕ). n ≡ old.first +ℤ pos k) e is_n ∙ sym is_x, subst (λ (k : ℕ). m ≡ old.base +ℤ pos k) b at.2 ∙ sym is_y)
                ]
            | inr ne ↦ inl (p.0, p.1, is_n, subst (λ (w : ℕ). IsBit old.base w m) (other p.0 ne) has)
          ]),
      (λ g. elim g [
        | inl p ↦
            let is_n : n ≡ new.first +ℤ pos p.0 = subst (λ (f : ℤ). n ≡ f +ℤ pos p.0) (sym same_first) p.2 in
            elim (cases_eq p.0 place) [
              | inl e ↦
                  let bit_old : IsBit old.base (get_or ws place 0) m = subst (λ (k : ℕ). IsBit old.base (get_or ws k 0) m) e p.3 in
                  let bit_new : IsBit old.base word m = (bit_old.0, bit_old.1, bit_old.2, (ones bit_old.0 bit_old.1).1 (inl bit_old.3)) in
                  let there : IsBit old.base (get_or new.words.items p.0 0) m = subst (λ (w : ℕ). IsBit old.base w m) (sym (ap (λ (k : ℕ). get_or new.words.items k 0) e ∙ here)) bit_new in
                  (p.0, p.1, is_n, subst (λ (b : ℤ). IsBit b (get_or new.words.items p.0 0) m) (sym same_base) there)
              | inr ne ↦
                  let there : IsBit old.base (get_or new.words.items p.0 0) m = subst (λ (w : ℕ). IsBit old.base w m) (sym (other p.0 ne)) p.3 in
                  (p.0, p.1, is_n, subst (λ (b : ℤ). IsBit b (get_or new.words.items p.0 0) m) (sym same_base) there)
            ]
        | inr e ↦
            let bit_new : IsBit old.base word m = (bit, small_bit, e.1 ∙ is_y, (ones bit small_bit).1 (inr refl)) in
            let there : IsBit old.base (get_or new.words.items place 0) m = subst (λ (w : ℕ). IsBit old.base w m) (sym here) bit_new in
            (place, small, subst (λ (f : ℤ). n ≡ f +ℤ pos place) (sym same_first) (e.0 ∙ is_x), subst (λ (b : ℤ). IsBit b (get_or new.words.items place 0) m) (sym same_base) there)
      ]),
    )

-- ---- all rows

-- the partners are those of the rows before one
pub record ArePartnersBelow (table : List ℤ) (pairs : Pairs) (row : ℕ) : Type 0 where
  pub partners : (n m : ℤ) → ArePartners pairs n m ↔ ((i : ℕ) × (i < row) × (slice_get table (i * 2 + 0) ≡ Some n) × (slice_get table (i * 2 + 1) ≡ Some m))
  pub firsts : HasRoom pairs.first
  pub seconds : HasRoom pairs.base

zeros_at : (count k : ℕ) → let none : ℕ = 0 in get_or (replicate count none) k none ≡ none
zeros_at zero k = refl
zeros_at (suc count) zero = refl
zeros_at (suc count) (suc k) = zeros_at count k

pub below_none : (table : List ℤ) (pairs : Pairs) (count : ℕ) → pairs.words.items ≡ replicate count 0 → HasRoom pairs.first → HasRoom pairs.base → ArePartnersBelow table pairs 0
below_none table pairs count none firsts seconds = record {
  partners = λ n m. (
    (λ p. absurd (none_in pairs.base m (subst (λ (w : ℕ). IsBit pairs.base w m) (ap (λ (xs : List ℕ). get_or xs p.0 0) none ∙ zeros_at count p.0) p.3))),
    (λ w. let below = w.1 in absurd (omega (arith, below))),
  );
  firsts = firsts;
  seconds = seconds;
}

pub below_more : (table : List ℤ) (old new : Pairs) (row : ℕ) (x y : ℤ) → slice_get table (row * 2 + 0) ≡ Some x → slice_get table (row * 2 + 1) ≡ Some y → new.first ≡ old.first → new.base ≡ old.base
    → ((n m : ℤ) → ArePartners new n m ↔ (ArePartners old n m ⊎ ((n ≡ x) × (m ≡ y)))) → ArePartnersBelow table old row → ArePartnersBelow table new (row + 1)
below_more table old new row x y at_x at_y same_first same_base more h = record {
  partners = λ n m. (
    (λ p. elim ((more n m).0 p) [
      | inl before ↦ let w = (h.partners n m).0 before in let below = w.1 in (w.0, omega (arith, below), w.2, w.3)
      | inr e ↦ (row, omega arith, at_x ∙ ap (λ (k : ℤ). Some k) (sym e.0), at_y ∙ ap (λ (k : ℤ). Some k) (sym e.1))
    ]),
    (λ w. (more n m).1 (elim (cases_eq w.0 row) [
      | inl e ↦
          let here : slice_get table (row * 2 + 0) ≡ Some n = subst (λ (i : ℕ). slice_get table (i * 2 + 0) ≡ Some n) e w.2 in
          let there : slice_get table (row * 2 + 1) ≡ Some m = subst (λ (i : ℕ). slice_get table (i * 2 + 1) ≡ Some m) e w.3 in
          inr (cc (here, at_x), cc (there, at_y))
      | inr ne ↦ let below = w.1 in inl ((h.partners n m).1 (w.0, omega (arith, below, ne), w.2, w.3))
    ])),
  );
  firsts = subst HasRoom (sym same_first) h.firsts;
  seconds = subst HasRoom (sym same_base) h.seconds;
}

pub below_all : (table : List ℤ) (pairs : Pairs) (row : ℕ) → row ≡ length table / 2 → ArePartnersBelow table pairs row → ArePairsOf table pairs
below_all table pairs row end h = record {
  partners = λ n m. (
    (λ p. let w = (h.partners n m).0 p in let below = subst (λ (k : ℕ). w.0 < k) end w.1 in (w.0, (below, w.2), (below, w.3))),
    (λ w. (h.partners n m).1 (w.0, subst (λ (k : ℕ). w.0 < k) (sym end) w.1.0, w.1.1, w.2.1)),
  );
  firsts = h.firsts;
  seconds = h.seconds;
}
