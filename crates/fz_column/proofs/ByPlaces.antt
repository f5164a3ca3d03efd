-- Columns whose numbers are among 64 that follow one another.
use Rattle.std.proofs.Common.{◌≡◌, ℕ, ◌+◌, ◌<◌, ◌≤◌, ◌⊎◌, List, inl, inr, refl, sym, ap, subst, ◌∙◌, arith, length}
use Rattle.std.specs.Prelude.{ℤ, pos, ◌+ℤ◌, slice_get, Some, ◌↔◌}
use Rattle.std.proofs.lemmas.Bool.{cases_eq}
use Rattle.std.proofs.lemmas.Option.{slice_get_within}
use Rattle.fz_bits.specs.declared.window.Window.{Window}
use Rattle.fz_bits.specs.Words.{HasBit, AreOnes}
use Rattle.fz_bits.specs.Members.{HasMember, IsOneOf}
use Rattle.fz_bits.specs.Windows.{IsBit}
use Rattle.fz_column.specs.declared.grid.Grid.{Grid}
use Rattle.fz_column.specs.Grids.{HasRow, IsWhole, HasRowOf, HasNumberOf}
use Rattle.fz_sets.specs.Sets.{IsInSet}
use Rattle.fz_column.specs.declared.supports.Support.{Support}
use Rattle.fz_column.specs.declared.dense.Dense.{Dense}
use Rattle.fz_column.specs.Supports.{HasNumber, IsLeftIn, StandsIn}
use Rattle.fz_column.specs.Dense.{HasRowAt, IsDenseOf}

-- ---- a grid that is filled by supports

-- a support before place k has the number and the row
abbrev pub HasNumberBelow : List Support → ℕ → ℤ → ℕ → Type 0
HasNumberBelow column k n i = (j : ℕ) × (s : Support) × (j < k) × (slice_get column j ≡ Some s) × (s.number ≡ n) × IsOneOf s.rows i

pub record IsFilledBelow (base : ℤ) (grid : Grid) (column : List Support) (k : ℕ) : Type 0 where
  pub whole : IsWhole grid
  pub rows : (n : ℤ) (i : ℕ) → HasNumberBelow column k n i ↔ HasRowAt base grid n i

pub filled_none : (base : ℤ) (grid : Grid) (column : List Support) → IsWhole grid → ((k i : ℕ) → HasRow grid k i → ⊥) → IsFilledBelow base grid column 0
filled_none base grid column whole none = record {
  whole = whole;
  rows = λ n i. ((λ h. absurd (let below = h.2 in omega (arith, below))), (λ w. absurd (none w.0 i w.3)));
}

pub filled_more : (base : ℤ) (old new : Grid) (column : List Support) (k : ℕ) (s : Support) (place : ℕ) → slice_get column k ≡ Some s → place < 64 → s.number ≡ base +ℤ pos place
    → IsWhole new → ((j i : ℕ) → HasRow new j i ↔ (HasRow old j i ⊎ ((j ≡ place) × IsOneOf s.rows i))) → IsFilledBelow base old column k → IsFilledBelow base new column (k + 1)
filled_more base old new column k s place at small is whole more h = record {
  whole = whole;
  rows = λ n i. (
    (λ g. elim (cases_eq g.0 k) [
      | inl e ↦
          let here : slice_get column k ≡ Some g.1 = subst (λ (j : ℕ). slice_get column j ≡ Some g.1) e g.3 in
          let one : g.1 ≡ s = cc (here, at) in (
            place,
            small,
            sym g.4 ∙ ap (λ (t : Support). t.number) one ∙ is,
            (more place i).1 (inr (refl, subst (λ (t : Support). IsOneOf t.rows i) one g.5)),
          )
      | inr ne ↦
          let below = g.2 in
          let w = (h.rows n i).0 (g.0, g.1, omega (arith, below, ne), g.3, g.4, g.5) in
          (w.0, w.1, w.2, (more w.0 i).1 (inl w.3))
    ]),
    (λ w. elim ((more w.0 i).0 w.3) [
      | inl before ↦
          let g = (h.rows n i).1 (w.0, w.1, w.2, before) in
          let below = g.2 in
          (g.0, g.1, omega (arith, below), g.3, g.4, g.5)
      | inr one ↦ (k, s, omega arith, at, is ∙ ap (λ (j : ℕ). base +ℤ pos j) (sym one.0) ∙ sym w.2, one.1)
    ]),
  );
}

pub filled_all : (base : ℤ) (grid : Grid) (column : List Support) (k : ℕ) → length column ≤ k → IsFilledBelow base grid column k
    → (n : ℤ) (i : ℕ) → HasNumber column n i ↔ HasRowAt base grid n i
filled_all base grid column k end h n i = (
  (λ has.
      let under = slice_get_within column has.1.0 has.0 has.1.1 in
      (h.rows n i).0 (has.1.0, has.0, omega (arith, under, end), has.1.1, has.2, has.3)),
  (λ w. let g = (h.rows n i).1 w in (g.1, (g.0, g.3), g.4, g.5)),
)

-- ---- rows that are kept, and numbers that are found

pub dense_each : (dense : Dense) (column : List Support) (i : ℕ) → IsDenseOf dense column → (n : ℤ) × HasNumber column n i → (k : ℕ) × HasRow dense.grid k i
dense_each dense column i is h = let w = (is.rows h.0 i).0 h.1 in (w.0, w.3)

pub dense_left : (dense : Dense) (column : List Support) (d : List (ℤ × ℤ)) (numbers : ℕ) (rows new : List ℕ) → IsDenseOf dense column
    → AreOnes numbers (λ j. IsInSet d (dense.base +ℤ pos j)) → ((i : ℕ) → HasMember new i ↔ (HasMember rows i × HasRowOf dense.grid numbers i))
    → (i : ℕ) → HasMember new i ↔ (HasMember rows i × IsLeftIn column d i)
dense_left dense column d numbers rows new is ones keeps i = (
  (λ has.
      let w = (keeps i).0 has in
      let k = w.1.0 in
      let small = (is.whole k i w.1.2).0 in
      (w.0, (dense.base +ℤ pos k, (is.rows (dense.base +ℤ pos k) i).1 (k, small, refl, w.1.2), (ones k small).0 w.1.1))),
  (λ h.
      let w = (is.rows h.1.0 i).0 h.1.1 in
      (keeps i).1 (h.0, (w.0, (ones w.0 w.1).1 (subst (IsInSet d) w.2 h.1.2), w.3))),
)

pub dense_numbers : (dense : Dense) (column : List Support) (d : List (ℤ × ℤ)) (numbers bits : ℕ) (rows : List ℕ) → IsDenseOf dense column
    → AreOnes numbers (λ j. IsInSet d (dense.base +ℤ pos j)) → AreOnes bits (λ k. HasBit numbers k × HasNumberOf dense.grid rows k)
    → (n : ℤ) → IsBit dense.base bits n ↔ (IsInSet d n × StandsIn column rows n)
dense_numbers dense column d numbers bits rows is ones found n = (
  (λ m.
      let w = (found m.0 m.1).0 m.3 in
      (subst (IsInSet d) (sym m.2) ((ones m.0 m.1).0 w.0), (w.1.0, (is.rows n w.1.0).1 (m.0, m.1, m.2, w.1.2), w.1.1))),
  (λ h.
      let w = (is.rows n h.1.0).0 h.1.1 in
      (w.0, w.1, w.2, (found w.0 w.1).1 ((ones w.0 w.1).1 (subst (IsInSet d) w.2 h.0), (h.1.0, h.1.2, w.3)))),
)

pub window_numbers : (column : List Support) (d : List (ℤ × ℤ)) (window : Window) (bits : ℕ) (rows : List ℕ) → ((n : ℤ) → IsBit window.base window.bits n ↔ IsInSet d n)
    → ((n : ℤ) → IsBit window.base bits n ↔ (IsBit window.base window.bits n × StandsIn column rows n))
    → (n : ℤ) → IsBit window.base bits n ↔ (IsInSet d n × StandsIn column rows n)
window_numbers column d window bits rows is found n = (
  (λ m. let w = (found n).0 m in ((is n).0 w.0, w.1)),
  (λ h. (found n).1 ((is n).1 h.0, h.1)),
)
