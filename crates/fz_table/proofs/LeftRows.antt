-- Rows that lie in the domains: the loop over the columns that finds them, and that the values of an assignment are one of them.
use Rattle.std.proofs.Common.{◌≡◌, ℕ, suc, ◌+◌, ◌*◌, ◌/◌, ◌<◌, ◌≤◌, ◌⊎◌, List, inl, inr, refl, sym, ap, subst, ◌∙◌, arith, length, option_map, get_or, pos}
use Rattle.std.specs.Prelude.{ℤ, slice_get, slice_range, Some, ◌↔◌}
use Rattle.std.specs.List.{AllByRecursion}
use Rattle.std.proofs.Math.Nat.{le-div_iff_mul-le, suc-mul}
use Rattle.std.proofs.lemmas.Bool.{cases_eq}
use Rattle.std.proofs.lemmas.List.{length-map}
use Rattle.std.proofs.lemmas.Option.{slice_get_within, slice_get-map, slice_get-get_or, slice_get_read}
use Rattle.fz_sets.specs.Sets.{IsInSet}
use Rattle.fz_sets.proofs.Lists.{all_at}
use Rattle.fz_spec.specs.declared.term.Term.{Term}
use Rattle.fz_spec.specs.Constraints.{term_value, term_values}
use Rattle.fz_strength.specs.Domains.{term_set, Within, IsTermOf}
use Rattle.fz_strength.specs.Events.{IsFixedIn}
use Rattle.fz_strength.specs.Tables.{LieWithin, IsLeftRow}
use Rattle.fz_prop.proofs.TermChanges.{term_within}
use Rattle.fz_column.specs.declared.supports.Support.{Support}
use Rattle.fz_bits.specs.Members.{HasMember, words_for}
use Rattle.fz_column.specs.Supports.{HasNumber, AreSized, IsColumnOf, AreColumnsOf, IsNumberAt, IsLeftIn, StandsIn}
use Rattle.fz_table.specs.Rows.{IsRowAt, IsLeftAt, AreLeft, Stands}
use Rattle.fz_column.proofs.Slices.{part_get, part_inside, part_length}
use Rattle.fz_table.proofs.Building.{number_inside}

-- ---- a row of the table

-- a row lies in the table
pub row_inside : (xs : List Term) (table : List ℤ) (ds : List (List (ℤ × ℤ))) (start : ℕ) → 0 < length xs → IsLeftAt xs table ds start → start + length xs ≤ length table
row_inside xs table ds start some left = part_inside table start (length xs) some left.within.size

-- its place is below the count of rows
pub row_below : (xs : List Term) (table : List ℤ) (ds : List (List (ℤ × ℤ))) (i : ℕ) → 0 < length xs → IsLeftAt xs table ds (i * length xs) → i < length table / length xs
row_below xs table ds i some left =
    let inside = row_inside xs table ds (i * length xs) some left in
    let whole : suc i * length xs ≤ length table = subst (λ (m : ℕ). m ≤ length table) (sym (suc-mul i (length xs))) inside in
    (le-div_iff_mul-le {k = length xs} {x = suc i} {y = length table} some).1 whole

-- a part of the table that lies in the domains is a row
pub row_left : (xs : List Term) (table : List ℤ) (ds : List (List (ℤ × ℤ))) (i : ℕ) → 0 < length xs
    → LieWithin ds xs (slice_range table (i * length xs) (i * length xs + length xs)) → IsLeftAt xs table ds (i * length xs)
row_left xs table ds i some within =
    let row = slice_range table (i * length xs) (i * length xs + length xs) in
    let size : length row ≡ length xs = within.size in
    record {
      is_row = (
        subst (λ (n : ℕ). 0 < n) (sym size) some,
        (i, subst (λ (n : ℕ). slice_range table (i * n) (i * n + n) ≡ row) (sym size) refl),
      );
      within = within;
    }

-- ---- the loops

-- Each of these rows has, at each place that was looked at, a number that is left, and each row that has only such numbers is one of
-- them.
pub record AreLeftBy (xs : List Term) (table : List ℤ) (ds : List (List (ℤ × ℤ))) (rows : List ℕ) (Seen : ℕ → Term → Type 0) : Type 0 where
  pub below : (i : ℕ) → HasMember rows i → i < length table / length xs
  pub each : (i j : ℕ) (t : Term) → HasMember rows i → Seen j t → slice_get xs j ≡ Some t → (n : ℤ) × IsNumberAt table (length xs) j i n × IsInSet (term_set ds t) n
  pub all : (i : ℕ) → i < length table / length xs
      → ((j : ℕ) (t : Term) (n : ℤ) → Seen j t → slice_get xs j ≡ Some t → slice_get table (i * length xs + j) ≡ Some n → IsInSet (term_set ds t) n) → HasMember rows i
  pub long : length rows ≡ words_for (length table / length xs)

-- a fixed term before place k was looked at; all fixed ones were, and those before place k
abbrev pub IsFixedBelow : List (List (ℤ × ℤ)) → ℕ → ℕ → Term → Type 0
IsFixedBelow ds k j t = (j < k) × IsFixedIn ds t

abbrev pub IsFixedOrBelow : List (List (ℤ × ℤ)) → ℕ → ℕ → Term → Type 0
IsFixedOrBelow ds k j t = IsFixedIn ds t ⊎ (j < k)

pub left_none : (xs : List Term) (table : List ℤ) (ds : List (List (ℤ × ℤ))) (rows : List ℕ) → ((i : ℕ) → HasMember rows i ↔ (i < length table / length xs))
    → length rows ≡ words_for (length table / length xs) → AreLeftBy xs table ds rows (IsFixedBelow ds 0)
left_none xs table ds rows every long = record {
  below = λ i has. (every i).0 has;
  each = λ i j t has seen. absurd (let below = seen.0 in omega (arith, below));
  all = λ i below h. (every i).1 below;
  long = long;
}

-- the same places were looked at
left_same : (xs : List Term) (table : List ℤ) (ds : List (List (ℤ × ℤ))) (rows : List ℕ) (Old New : ℕ → Term → Type 0)
    → ((j : ℕ) (u : Term) → slice_get xs j ≡ Some u → Old j u ↔ New j u) → AreLeftBy xs table ds rows Old → AreLeftBy xs table ds rows New
left_same xs table ds rows Old New same h = record {
  below = h.below;
  each = λ i j u has seen at. h.each i j u has ((same j u at).1 seen) at;
  all = λ i below within. h.all i below (λ j u m seen at. within j u m ((same j u at).0 seen) at);
  long = h.long;
}

-- a row has a number at each place
row_number : (table : List ℤ) (width k i : ℕ) (column : List Support) → k < width → i < length table / width → IsColumnOf table width k column
    → (n : ℤ) × (slice_get table (i * width + k) ≡ Some n) × HasNumber column n i
row_number table width k i column inside below is =
    let place = i * width + k in
    let n = get_or table place (pos 0) in
    let there : slice_get table place ≡ Some n = slice_get-get_or table place (pos 0) (number_inside table width k i inside below) in
    (n, there, (is.rows n i).1 (below, there))

pub left_each : (xs : List Term) (table : List ℤ) (ds : List (List (ℤ × ℤ))) (rows : List ℕ) (Seen : ℕ → Term → Type 0) (k : ℕ) (column : List Support) → k < length xs
    → IsColumnOf table (length xs) k column → AreLeftBy xs table ds rows Seen → (i : ℕ) → HasMember rows i → (n : ℤ) × HasNumber column n i
left_each xs table ds rows Seen k column inside is h = λ i has. let w = row_number table (length xs) k i column inside (h.below i has) is in (w.0, w.2)

pub left_sized : (xs : List Term) (table : List ℤ) (ds : List (List (ℤ × ℤ))) (rows : List ℕ) (Seen : ℕ → Term → Type 0) (k : ℕ) (column : List Support) → IsColumnOf table (length xs) k column
    → AreLeftBy xs table ds rows Seen → AreSized column (length rows)
left_sized xs table ds rows Seen k column is h = λ s in_column. subst (λ (size : ℕ). s.rows.word < size) (sym h.long) (is.sized s in_column)

-- one place more was looked at
left_more : (xs : List Term) (table : List ℤ) (ds : List (List (ℤ × ℤ))) (rows new : List ℕ) (Old New : ℕ → Term → Type 0) (k : ℕ) (t : Term) (column : List Support) → slice_get xs k ≡ Some t
    → ((j : ℕ) (u : Term) → slice_get xs j ≡ Some u → New j u ↔ ((j ≡ k) ⊎ Old j u))
    → IsColumnOf table (length xs) k column → ((i : ℕ) → HasMember new i ↔ (HasMember rows i × IsLeftIn column (term_set ds t) i)) → length new ≡ length rows
    → AreLeftBy xs table ds rows Old → AreLeftBy xs table ds new New
left_more xs table ds rows new Old New k t column at one_more is keeps same h = record {
  below = λ i has. h.below i ((keeps i).0 has).0;
  each = λ i j u has seen at_u. elim ((one_more j u at_u).0 seen) [
    | inl e ↦
        let left = ((keeps i).0 has).1 in
        let here : slice_get xs k ≡ Some u = subst (λ (m : ℕ). slice_get xs m ≡ Some u) e at_u in
        let one : u ≡ t = cc (here, at) in (
          left.0,
          subst (λ (m : ℕ). IsNumberAt table (length xs) m i left.0) (sym e) ((is.rows left.0 i).0 left.1),
          subst (λ (v : Term). IsInSet (term_set ds v) left.0) (sym one) left.2,
        )
    | inr before ↦ h.each i j u ((keeps i).0 has).0 before at_u
  ];
  all = λ i below within.
      let w = row_number table (length xs) k i column (slice_get_within xs k t at) below is in
      (keeps i).1 (
        h.all i below (λ j u m seen at_u. within j u m ((one_more j u at_u).1 (inr seen)) at_u),
        (w.0, w.2, within k t w.0 ((one_more k t at).1 (inl refl)) at w.1),
      );
  long = same ∙ h.long;
}

-- ---- the loop over the fixed terms

pub fixed_more : (xs : List Term) (table : List ℤ) (ds : List (List (ℤ × ℤ))) (rows new : List ℕ) (k : ℕ) (t : Term) (column : List Support) → slice_get xs k ≡ Some t → IsFixedIn ds t
    → IsColumnOf table (length xs) k column → ((i : ℕ) → HasMember new i ↔ (HasMember rows i × IsLeftIn column (term_set ds t) i)) → length new ≡ length rows
    → AreLeftBy xs table ds rows (IsFixedBelow ds k) → AreLeftBy xs table ds new (IsFixedBelow ds (k + 1))
fixed_more xs table ds rows new k t column at fixed is keeps same h = left_more xs table ds rows new (IsFixedBelow ds k) (IsFixedBelow ds (k + 1)) k t column at (λ j u at_u. (
  (λ seen. elim (cases_eq j k) [ inl e ↦ inl e | inr ne ↦ let below = seen.0 in inr (omega (arith, below, ne), seen.1) ]),
  (λ g. elim g [
    | inl e ↦
        let here : slice_get xs k ≡ Some u = subst (λ (m : ℕ). slice_get xs m ≡ Some u) e at_u in
        let one : t ≡ u = cc (here, at) in
        (omega (arith, e), subst (IsFixedIn ds) one fixed)
    | inr seen ↦ let below = seen.0 in (omega (arith, below), seen.1)
  ]),
)) is keeps same h

pub fixed_passed : (xs : List Term) (table : List ℤ) (ds : List (List (ℤ × ℤ))) (rows : List ℕ) (k : ℕ) (t : Term) → slice_get xs k ≡ Some t → (IsFixedIn ds t → ⊥)
    → AreLeftBy xs table ds rows (IsFixedBelow ds k) → AreLeftBy xs table ds rows (IsFixedBelow ds (k + 1))
fixed_passed xs table ds rows k t at not_fixed h = left_same xs table ds rows (IsFixedBelow ds k) (IsFixedBelow ds (k + 1)) (λ j u at_u. (
  (λ seen. let below = seen.0 in (omega (arith, below), seen.1)),
  (λ seen. elim (cases_eq j k) [
    | inl e ↦
        let here : slice_get xs k ≡ Some u = subst (λ (m : ℕ). slice_get xs m ≡ Some u) e at_u in
        let one : u ≡ t = cc (here, at) in
        absurd (not_fixed (subst (IsFixedIn ds) one seen.1))
    | inr ne ↦ let below = seen.0 in (omega (arith, below, ne), seen.1)
  ]),
)) h

-- ---- the loop over the others

pub open_none : (xs : List Term) (table : List ℤ) (ds : List (List (ℤ × ℤ))) (rows : List ℕ) (k : ℕ) → length xs ≤ k
    → AreLeftBy xs table ds rows (IsFixedBelow ds k) → AreLeftBy xs table ds rows (IsFixedOrBelow ds 0)
open_none xs table ds rows k end h = left_same xs table ds rows (IsFixedBelow ds k) (IsFixedOrBelow ds 0) (λ j u at_u. (
  (λ seen. inl seen.1),
  (λ g. elim g [
    | inl fixed ↦ let under = slice_get_within xs j u at_u in (omega (arith, under, end), fixed)
    | inr below ↦ absurd (omega (arith, below))
  ]),
)) h

pub open_more : (xs : List Term) (table : List ℤ) (ds : List (List (ℤ × ℤ))) (rows new : List ℕ) (k : ℕ) (t : Term) (column : List Support) → slice_get xs k ≡ Some t
    → IsColumnOf table (length xs) k column → ((i : ℕ) → HasMember new i ↔ (HasMember rows i × IsLeftIn column (term_set ds t) i)) → length new ≡ length rows
    → AreLeftBy xs table ds rows (IsFixedOrBelow ds k) → AreLeftBy xs table ds new (IsFixedOrBelow ds (k + 1))
open_more xs table ds rows new k t column at is keeps same h = left_more xs table ds rows new (IsFixedOrBelow ds k) (IsFixedOrBelow ds (k + 1)) k t column at (λ j u at_u. (
  (λ g. elim g [
    | inl fixed ↦ inr (inl fixed)
    | inr below ↦ elim (cases_eq j k) [ inl e ↦ inl e | inr ne ↦ inr (inr (omega (arith, below, ne))) ]
  ]),
  (λ g. elim g [
    | inl e ↦ inr (omega (arith, e))
    | inr seen ↦ elim seen [ inl fixed ↦ inl fixed | inr below ↦ inr (omega (arith, below)) ]
  ]),
)) is keeps same h

pub open_passed : (xs : List Term) (table : List ℤ) (ds : List (List (ℤ × ℤ))) (rows : List ℕ) (k : ℕ) (t : Term) → slice_get xs k ≡ Some t → IsFixedIn ds t
    → AreLeftBy xs table ds rows (IsFixedOrBelow ds k) → AreLeftBy xs table ds rows (IsFixedOrBelow ds (k + 1))
open_passed xs table ds rows k t at fixed h = left_same xs table ds rows (IsFixedOrBelow ds k) (IsFixedOrBelow ds (k + 1)) (λ j u at_u. (
  (λ g. elim g [ inl still ↦ inl still | inr below ↦ inr (omega (arith, below)) ]),
  (λ g. elim g [
    | inl still ↦ inl still
    | inr below ↦ elim (cases_eq j k) [
      | inl e ↦
          let here : slice_get xs k ≡ Some u = subst (λ (m : ℕ). slice_get xs m ≡ Some u) e at_u in
          let one : t ≡ u = cc (here, at) in
          inl (subst (IsFixedIn ds) one fixed)
      | inr ne ↦ inr (omega (arith, below, ne))
    ]
  ]),
)) h

pub left_all : (xs : List Term) (table : List ℤ) (ds : List (List (ℤ × ℤ))) (rows : List ℕ) (k : ℕ) → 0 < length xs → length xs ≤ k
    → AreLeftBy xs table ds rows (IsFixedOrBelow ds k) → AreLeft xs table ds rows
left_all xs table ds rows k some end h = λ i. (
  (λ has.
      let below = h.below i has in
      let start = i * length xs in
      let whole : start + length xs ≤ length table =
      subst (λ (m : ℕ). m ≤ length table) (suc-mul i (length xs)) ((le-div_iff_mul-le {k = length xs} {x = suc i} {y = length table} some).0 below) in
      row_left xs table ds i some (record {
        size = part_length table start (length xs) whole;
        each = λ j t n at_t at_n.
            let under = slice_get_within xs j t at_t in
            let number = h.each i j t has (inr (omega (arith, under, end))) at_t in
            let there : slice_get table (start + j) ≡ Some n = sym (part_get table start (length xs) j under) ∙ at_n in
            let mine : slice_get table (start + j) ≡ Some number.0 = number.1.1 in
            let same : number.0 ≡ n = cc (there, mine) in
            subst (IsInSet (term_set ds t)) same number.2;
      })),
  (λ left. h.all i (row_below xs table ds i some left) (λ j t n seen at_t at_n.
      left.within.each j t n at_t (part_get table (i * length xs) (length xs) j (slice_get_within xs j t at_t) ∙ at_n))),
)

-- ---- the values of an assignment

values_within : (xs : List Term) (ds : List (List (ℤ × ℤ))) (a : List ℤ) → AllByRecursion (IsTermOf (length ds)) xs → Within ds a → LieWithin ds xs (term_values a xs)
values_within xs ds a terms within = record {
  size = length-map xs (term_value a);
  each = λ j t n at_t at_n.
      let got : slice_get (term_values a xs) j ≡ Some (term_value a t) = slice_get-map (term_value a) xs j ∙ ap (λ o. option_map (term_value a) o) at_t in
      let same : n ≡ term_value a t = cc (got, at_n) in
      subst (IsInSet (term_set ds t)) (sym same) (term_within ds a t (all_at (IsTermOf (length ds)) xs j t terms at_t) within);
}

pub value_row : (xs : List Term) (table : List ℤ) (ds : List (List (ℤ × ℤ))) (rows : List ℕ) (a : List ℤ) → AllByRecursion (IsTermOf (length ds)) xs
    → AreLeft xs table ds rows → IsRowAt xs table a → Within ds a
    → (i : ℕ) × HasMember rows i × (slice_range table (i * length xs) (i * length xs + length xs) ≡ term_values a xs)
value_row xs table ds rows a terms are holds within =
    let size : length (term_values a xs) ≡ length xs = length-map xs (term_value a) in
    let i = holds.1.0 in
    let is : slice_range table (i * length xs) (i * length xs + length xs) ≡ term_values a xs =
    subst (λ (n : ℕ). slice_range table (i * n) (i * n + n) ≡ term_values a xs) size holds.1.1 in
    let left : IsLeftAt xs table ds (i * length xs) =
    subst (IsLeftRow xs table ds) (sym is) (record { is_row = holds; within = values_within xs ds a terms within }) in
    (i, (are i).1 left, is)

-- each value stands at its place of a row that is left
pub value_stands : (xs : List Term) (table : List ℤ) (ds : List (List (ℤ × ℤ))) (rows : List ℕ) (a : List ℤ) (j : ℕ) (t : Term) → AllByRecursion (IsTermOf (length ds)) xs
    → AreLeft xs table ds rows → slice_get xs j ≡ Some t → IsRowAt xs table a → Within ds a → Stands table (length xs) rows j (term_value a t)
value_stands xs table ds rows a j t terms are at_t holds within =
    let v = value_row xs table ds rows a terms are holds within in
    let got : slice_get (term_values a xs) j ≡ Some (term_value a t) = slice_get-map (term_value a) xs j ∙ ap (λ o. option_map (term_value a) o) at_t in
    let below = slice_get_within xs j t at_t in
    (v.0, v.1, sym (part_get table (v.0 * length xs) (length xs) j below) ∙ ap (λ (ns : List ℤ). slice_get ns j) v.2 ∙ got)

-- no assignment makes it true where no row is left
pub none_left : (xs : List Term) (table : List ℤ) (ds : List (List (ℤ × ℤ))) (rows : List ℕ) (a : List ℤ) → AllByRecursion (IsTermOf (length ds)) xs
    → AreLeft xs table ds rows → ((i : ℕ) → HasMember rows i → ⊥) → Within ds a → IsRowAt xs table a → ⊥
none_left xs table ds rows a terms are none within holds = let v = value_row xs table ds rows a terms are holds within in none v.0 v.1

-- ---- what stands in a column

-- a number of these rows in a column stands at its place of one of them, and the other way round
pub in_column : (xs : List Term) (table : List ℤ) (ds : List (List (ℤ × ℤ))) (rows : List ℕ) (j : ℕ) (column : List Support) → 0 < length xs → AreLeft xs table ds rows
    → IsColumnOf table (length xs) j column → (n : ℤ) → StandsIn column rows n ↔ Stands table (length xs) rows j n
in_column xs table ds rows j column some are is n = (
  (λ h. (h.0, h.2, ((is.rows n h.0).0 h.1).1)),
  (λ h. (h.0, (is.rows n h.0).1 (row_below xs table ds h.0 some ((are h.0).0 h.1), h.2), h.1)),
)

-- a column of a table, by its place
pub column_at : (table : List ℤ) (width k : ℕ) (columns : List (List Support)) (column : List Support) → k < width → AreColumnsOf table width columns
    → column ≡ get_or columns k column → IsColumnOf table width k column
column_at table width k columns column below are is =
    let size = are.size in
    are.each k column (slice_get_read columns (length columns) k column refl (omega (arith, size, below)) is)
