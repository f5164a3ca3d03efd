-- The loops over a column that look at the numbers of a window.
use Rattle.std.proofs.Common.{◌≡◌, ℕ, ◌+◌, ◌<◌, ◌≤◌, List, ◌⊎◌, inl, inr, refl, sym, subst, ◌∙◌, arith, length}
use Rattle.std.specs.Prelude.{ℤ, slice_get, Some, ◌↔◌}
use Rattle.std.proofs.lemmas.Bool.{cases_eq, cases_lt}
use Rattle.std.proofs.lemmas.Option.{slice_get_within}
use Rattle.fz_column.specs.declared.supports.Support.{Support}
use Rattle.fz_bits.specs.Members.{HasMember, IsOneOf}
use Rattle.fz_column.specs.Supports.{IsNext, HasNumber, StandsIn, StandsBetween}

-- ---- the rows of the numbers with a property

-- a support before a place has the row, and its number has the property
abbrev pub HasRowBelow : List Support → (ℤ → Type 0) → ℕ → ℕ → Type 0
HasRowBelow column P place i = (k : ℕ) × (s : Support) × (k < place) × (slice_get column k ≡ Some s) × P s.number × IsOneOf s.rows i

pub record AreRowsBelow (column : List Support) (P : ℤ → Type 0) (old rows : List ℕ) (place : ℕ) : Type 0 where
  pub rows_are : (i : ℕ) → HasMember rows i ↔ (HasMember old i ⊎ HasRowBelow column P place i)
  pub size : length rows ≡ length old

pub rows_none : (column : List Support) (P : ℤ → Type 0) (old : List ℕ) → AreRowsBelow column P old old 0
rows_none column P old = record {
  rows_are = λ i. ((λ has. inl has), (λ g. elim g [ inl has ↦ has | inr w ↦ let below = w.2 in absurd (omega (arith, below)) ]));
  size = refl;
}

pub rows_joined : (column : List Support) (P : ℤ → Type 0) (old rows new : List ℕ) (place : ℕ) (x : Support) → slice_get column place ≡ Some x → P x.number
    → ((i : ℕ) → HasMember new i ↔ (HasMember rows i ⊎ IsOneOf x.rows i)) → length new ≡ length rows → AreRowsBelow column P old rows place → AreRowsBelow column P old new (place + 1)
rows_joined column P old rows new place x at holds more same h = record {
  rows_are = λ i. (
    (λ has. elim ((more i).0 has) [
      | inl before ↦ elim ((h.rows_are i).0 before) [ inl had ↦ inl had | inr w ↦ let below = w.2 in inr (w.0, w.1, omega (arith, below), w.3, w.4, w.5) ]
      | inr here ↦ inr (place, x, omega arith, at, holds, here)
    ]),
    (λ g. elim g [
      | inl had ↦ (more i).1 (inl ((h.rows_are i).1 (inl had)))
      | inr w ↦ elim (cases_eq w.0 place) [
        | inl e ↦
            let is : w.1 ≡ x = cc (subst (λ (k : ℕ). slice_get column k ≡ Some w.1) e w.3, at) in
            (more i).1 (inr (subst (λ (t : Support). IsOneOf t.rows i) is w.5))
        | inr ne ↦ let below = w.2 in (more i).1 (inl ((h.rows_are i).1 (inr (w.0, w.1, omega (arith, below, ne), w.3, w.4, w.5))))
      ]
    ]),
  );
  size = same ∙ h.size;
}

pub rows_passed : (column : List Support) (P : ℤ → Type 0) (old rows : List ℕ) (place end : ℕ) (x : Support) → IsNext column place end
    → slice_get column place ≡ Some x → (P x.number → ⊥) → AreRowsBelow column P old rows place → AreRowsBelow column P old rows end
rows_passed column P old rows place end x next at not h =
    let ahead = next.further in
    record {
      rows_are = λ i. (
        (λ has. elim ((h.rows_are i).0 has) [ inl had ↦ inl had | inr w ↦ let below = w.2 in inr (w.0, w.1, omega (arith, below, ahead), w.3, w.4, w.5) ]),
        (λ g. (h.rows_are i).1 (elim g [
          | inl had ↦ inl had
          | inr w ↦ elim (cases_lt w.0 place) [
            | inl before ↦ inr (w.0, w.1, before, w.3, w.4, w.5)
            | inr after ↦ absurd (not (subst P (next.same w.0 x w.1 at w.3 after w.2) w.4))
          ]
        ])),
      );
      size = h.size;
    }

pub rows_all : (column : List Support) (P : ℤ → Type 0) (old rows : List ℕ) (place : ℕ) → length column ≤ place → AreRowsBelow column P old rows place
    → (i : ℕ) → HasMember rows i ↔ (HasMember old i ⊎ ((n : ℤ) × HasNumber column n i × P n))
rows_all column P old rows place end h i = (
  (λ has. elim ((h.rows_are i).0 has) [ inl had ↦ inl had | inr w ↦ inr (w.1.number, (w.1, (w.0, w.3), refl, w.5), w.4) ]),
  (λ g. (h.rows_are i).1 (elim g [
    | inl had ↦ inl had
    | inr w ↦
        let s = w.1.0 in
        let at = w.1.1.1 in
        let inside = slice_get_within column w.1.1.0 s at in
        inr (w.1.1.0, s, omega (arith, inside, end), at, subst P (sym w.1.2) w.2, w.1.3)
  ])),
)

-- ---- the numbers with a property that some rows have

-- the numbers with property P of the supports before a place that have some rows are those with property Q
abbrev pub AreNumbersBelow : List Support → List ℕ → (ℤ → Type 0) → (ℤ → Type 0) → ℕ → Type 0
AreNumbersBelow column rows P Q place = (n : ℤ) → Q n ↔ (P n × StandsBetween column rows 0 place n)

pub numbers_none : (column : List Support) (rows : List ℕ) (P Q : ℤ → Type 0) → ((n : ℤ) → Q n → ⊥) → AreNumbersBelow column rows P Q 0
numbers_none column rows P Q none n = ((λ is. absurd (none n is)), (λ w. let below = w.1.3 in absurd (omega (arith, below))))

-- supports from a place up to another are passed, none of which adds a number
pub numbers_passed : (column : List Support) (rows : List ℕ) (P Q : ℤ → Type 0) (place end : ℕ) → place ≤ end
    → ((j : ℕ) (t : Support) (i : ℕ) → slice_get column j ≡ Some t → place ≤ j → j < end → P t.number → HasMember rows i → IsOneOf t.rows i → ⊥)
    → AreNumbersBelow column rows P Q place → AreNumbersBelow column rows P Q end
numbers_passed column rows P Q place end further none h n = (
  (λ is. let w = (h n).0 is in let below = w.1.3 in (w.0, (w.1.0, w.1.1, w.1.2, omega (arith, below, further), w.1.4, w.1.5, w.1.6, w.1.7, w.1.8))),
  (λ w. elim (cases_lt w.1.0 place) [
    | inl before ↦ (h n).1 (w.0, (w.1.0, w.1.1, w.1.2, before, w.1.4, w.1.5, w.1.6, w.1.7, w.1.8))
    | inr after ↦ absurd (none w.1.0 w.1.1 w.1.6 w.1.4 after w.1.3 (subst P (sym w.1.5) w.0) w.1.7 w.1.8)
  ]),
)

-- a number is added, and the supports that have it are passed
pub numbers_more : (column : List Support) (rows : List ℕ) (P Q R : ℤ → Type 0) (place end : ℕ) (x : Support) → IsNext column place end
    → slice_get column place ≡ Some x → P x.number → ((i : ℕ) × HasMember rows i × IsOneOf x.rows i) → ((n : ℤ) → R n ↔ (Q n ⊎ (n ≡ x.number)))
    → AreNumbersBelow column rows P Q place → AreNumbersBelow column rows P R end
numbers_more column rows P Q R place end x next at holds some more h n =
    let ahead = next.further in (
      (λ is. elim ((more n).0 is) [
        | inl before ↦ let w = (h n).0 before in let below = w.1.3 in (w.0, (w.1.0, w.1.1, w.1.2, omega (arith, below, ahead), w.1.4, w.1.5, w.1.6, w.1.7, w.1.8))
        | inr e ↦ (subst P (sym e) holds, (place, x, omega arith, ahead, at, sym e, some.0, some.1, some.2))
      ]),
      (λ w. (more n).1 (elim (cases_lt w.1.0 place) [
        | inl before ↦ inl ((h n).1 (w.0, (w.1.0, w.1.1, w.1.2, before, w.1.4, w.1.5, w.1.6, w.1.7, w.1.8)))
        | inr after ↦ inr (sym w.1.5 ∙ next.same w.1.0 x w.1.1 at w.1.4 after w.1.3)
      ])),
    )

-- a number without the property
pub none_outside : (column : List Support) (rows : List ℕ) (P : ℤ → Type 0) (place end : ℕ) (x : Support) → IsNext column place end
    → slice_get column place ≡ Some x → (P x.number → ⊥)
    → (j : ℕ) (t : Support) (i : ℕ) → slice_get column j ≡ Some t → place ≤ j → j < end → P t.number → HasMember rows i → IsOneOf t.rows i → ⊥
none_outside column rows P place end x next at not j t i at_t after before holds has one = not (subst P (next.same j x t at at_t after before) holds)

-- a support with none of the rows
pub none_meets : (column : List Support) (rows : List ℕ) (P : ℤ → Type 0) (place : ℕ) (x : Support) → slice_get column place ≡ Some x → (((i : ℕ) × HasMember rows i × IsOneOf x.rows i) → ⊥)
    → (j : ℕ) (t : Support) (i : ℕ) → slice_get column j ≡ Some t → place ≤ j → j < place + 1 → P t.number → HasMember rows i → IsOneOf t.rows i → ⊥
none_meets column rows P place x at not j t i at_t after before holds has one =
    let e : j ≡ place = omega (arith, after, before) in
    let is : t ≡ x = cc (subst (λ (k : ℕ). slice_get column k ≡ Some t) e at_t, at) in
    not (i, has, subst (λ (u : Support). IsOneOf u.rows i) is one)

pub numbers_all : (column : List Support) (rows : List ℕ) (P Q : ℤ → Type 0) (place : ℕ) → length column ≤ place → AreNumbersBelow column rows P Q place
    → (n : ℤ) → Q n ↔ (P n × StandsIn column rows n)
numbers_all column rows P Q place end h n = (
  (λ is. let w = (h n).0 is in (w.0, (w.1.6, (w.1.1, (w.1.0, w.1.4), w.1.5, w.1.8), w.1.7))),
  (λ w. (h n).1 (let s = w.1.1.0 in let at = w.1.1.1.1 in let inside = slice_get_within column w.1.1.1.0 s at in
      (w.0, (w.1.1.1.0, s, omega arith, omega (arith, inside, end), at, w.1.1.2, w.1.0, w.1.2, w.1.1.3)))),
)
