-- Words of rows, number by number.
use Rattle.std.proofs.Common.{◌≡◌, ℕ, ◌^◌, ◌<◌, ◌⊎◌, inl, inr, refl, sym, ap, subst, arith, List, get_or}
use Rattle.std.specs.Prelude.{◌↔◌}
use Rattle.std.specs.Int.{w64, trailing_zeros}
use Rattle.std.proofs.lemmas.Bool.{cases_eq}
use Rattle.std.proofs.lemmas.Nat.Bits.{bit_at-zero}
use Rattle.fz_bits.specs.Words.{HasBit, AreOnes}
use Rattle.fz_bits.proofs.Words.{first_bit, positive}
use Rattle.fz_column.specs.Lines.{HasOneOf, HasOneIn}

pub no_bit : (k : ℕ) → HasBit 0 k → ⊥
no_bit k one = let z = bit_at-zero k in omega (arith, z, one)

-- ---- what a word shares with some rows

pub shares : (line : List ℕ) (rows word both p : ℕ) → word ≡ get_or line p 0 → AreOnes both (λ r. HasBit rows r × HasBit word r) → (both ≡ 0 → ⊥) → both < 2 ^ 64 → HasOneIn line rows p
shares line rows word both p is ones some fits =
    let r = trailing_zeros w64 both in
    let first = first_bit both (positive both some) fits in
    let at = (ones r first.0).0 first.1 in
    (r, first.0, at.0, subst (λ (x : ℕ). HasBit x r) is at.1)

pub shares_none : (line : List ℕ) (rows word both p : ℕ) → word ≡ get_or line p 0 → AreOnes both (λ r. HasBit rows r × HasBit word r) → both ≡ 0 → HasOneIn line rows p → ⊥
shares_none line rows word both p is ones none h =
    no_bit h.0 (subst (λ (x : ℕ). HasBit x h.0) none ((ones h.0 h.1).1 (h.2, subst (λ (x : ℕ). HasBit x h.0) (sym is) h.3)))

-- ---- the rows of numbers, one number after the other

-- a number was taken from those that are left
abbrev pub IsTaken : ℕ → ℕ → ℕ → Type 0
IsTaken numbers left k = HasBit numbers k × (HasBit left k → ⊥)

-- these are the rows of the numbers that were taken
pub record AreRowsOfTaken (line : List ℕ) (numbers left rows : ℕ) : Type 0 where
  pub within : (k : ℕ) → k < 64 → HasBit left k → HasBit numbers k
  pub has : AreOnes rows (λ r. (k : ℕ) × (k < 64) × IsTaken numbers left k × HasBit (get_or line k 0) r)

pub rows_none : (line : List ℕ) (numbers : ℕ) → AreRowsOfTaken line numbers numbers 0
rows_none line numbers = record {
  within = λ k small h. h;
  has = λ r small. ((λ h. absurd (no_bit r h)), (λ w. absurd (w.2.1 w.2.0)));
}

pub rows_more : (line : List ℕ) (numbers left next rows word new p : ℕ) → p < 64 → HasBit left p → AreOnes next (λ k. HasBit left k × (k ≡ p → ⊥)) → word ≡ get_or line p 0
    → AreOnes new (λ r. HasBit rows r ⊎ HasBit word r) → AreRowsOfTaken line numbers left rows → AreRowsOfTaken line numbers next new
rows_more line numbers left next rows word new p small at less is more h = record {
  within = λ k l has. h.within k l ((less k l).0 has).0;
  has = λ r l. (
    (λ has. elim ((more r l).0 has) [
      | inl before ↦
          let w = (h.has r l).0 before in
          (w.0, w.1, (w.2.0, λ still. w.2.1 ((less w.0 w.1).0 still).0), w.3)
      | inr one ↦ (p, small, (h.within p small at, λ still. ((less p small).0 still).1 refl), subst (λ (x : ℕ). HasBit x r) is one)
    ]),
    (λ w. (more r l).1 (elim (cases_eq w.0 p) [
      | inl e ↦ inr (subst (λ (x : ℕ). HasBit x r) (sym is) (subst (λ (k : ℕ). HasBit (get_or line k 0) r) e w.3))
      | inr ne ↦ inl ((h.has r l).1 (w.0, w.1, (w.2.0, λ had. w.2.1 ((less w.0 w.1).1 (had, ne))), w.3))
    ])),
  );
}

pub rows_all : (line : List ℕ) (numbers left rows : ℕ) → left ≡ 0 → AreRowsOfTaken line numbers left rows → AreOnes rows (HasOneOf line numbers)
rows_all line numbers left rows none h = λ r l. (
  (λ has. let w = (h.has r l).0 has in (w.0, w.1, w.2.0, w.3)),
  (λ w. (h.has r l).1 (w.0, w.1, (w.2, λ still. no_bit w.0 (subst (λ (x : ℕ). HasBit x w.0) none still)), w.3)),
)

-- ---- the numbers of rows, one number after the other

-- these are the numbers that were taken and that one of some rows has
pub record AreNumbersOfTaken (line : List ℕ) (numbers rows left found : ℕ) : Type 0 where
  pub within : (k : ℕ) → k < 64 → HasBit left k → HasBit numbers k
  pub has : AreOnes found (λ k. IsTaken numbers left k × HasOneIn line rows k)

pub numbers_none : (line : List ℕ) (numbers rows : ℕ) → AreNumbersOfTaken line numbers rows numbers 0
numbers_none line numbers rows = record {
  within = λ k small h. h;
  has = λ k small. ((λ h. absurd (no_bit k h)), (λ w. absurd (w.0.1 w.0.0)));
}

-- a number is taken that none of the rows has
pub numbers_passed : (line : List ℕ) (numbers rows left next found p : ℕ) → p < 64 → AreOnes next (λ k. HasBit left k × (k ≡ p → ⊥)) → (HasOneIn line rows p → ⊥)
    → AreNumbersOfTaken line numbers rows left found → AreNumbersOfTaken line numbers rows next found
numbers_passed line numbers rows left next found p small less none h = record {
  within = λ k l has. h.within k l ((less k l).0 has).0;
  has = λ k l. (
    (λ has. let w = (h.has k l).0 has in ((w.0.0, λ still. w.0.1 ((less k l).0 still).0), w.1)),
    (λ w. elim (cases_eq k p) [
      | inl e ↦ absurd (none (subst (HasOneIn line rows) e w.1))
      | inr ne ↦ (h.has k l).1 ((w.0.0, λ had. w.0.1 ((less k l).1 (had, ne))), w.1)
    ]),
  );
}

pub numbers_more : (line : List ℕ) (numbers rows left next found new p : ℕ) → p < 64 → HasBit left p → AreOnes next (λ k. HasBit left k × (k ≡ p → ⊥)) → HasOneIn line rows p
    → AreOnes new (λ k. HasBit found k ⊎ (k ≡ p)) → AreNumbersOfTaken line numbers rows left found → AreNumbersOfTaken line numbers rows next new
numbers_more line numbers rows left next found new p small at less one more h = record {
  within = λ k l has. h.within k l ((less k l).0 has).0;
  has = λ k l. (
    (λ has. elim ((more k l).0 has) [
      | inl before ↦ let w = (h.has k l).0 before in ((w.0.0, λ still. w.0.1 ((less k l).0 still).0), w.1)
      | inr e ↦ subst (λ (j : ℕ). IsTaken numbers next j × HasOneIn line rows j) (sym e) ((h.within p small at, λ still. ((less p small).0 still).1 refl), one)
    ]),
    (λ w. (more k l).1 (elim (cases_eq k p) [
      | inl e ↦ inr e
      | inr ne ↦ inl ((h.has k l).1 ((w.0.0, λ had. w.0.1 ((less k l).1 (had, ne))), w.1))
    ])),
  );
}

pub numbers_all : (line : List ℕ) (numbers rows left found : ℕ) → left ≡ 0 → AreNumbersOfTaken line numbers rows left found → AreOnes found (λ k. HasBit numbers k × HasOneIn line rows k)
numbers_all line numbers rows left found none h = λ k l. (
  (λ has. let w = (h.has k l).0 has in (w.0.0, w.1)),
  (λ w. (h.has k l).1 ((w.0, λ still. no_bit k (subst (λ (x : ℕ). HasBit x k) none still)), w.1)),
)
