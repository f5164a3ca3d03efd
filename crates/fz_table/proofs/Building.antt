-- The columns of a table: the number of each row at a place, in the order of the numbers, and the loop over the places.
use Rattle.std.proofs.Common.{◌≡◌, ℕ, zero, suc, ◌+◌, ◌-◌, ◌*◌, ◌/◌, ◌<◌, ◌≤◌, List, [], ◌∷◌, ◌++◌, inl, inr, sym, ap, subst, ◌∙◌, arith, length, get_or, false, ◌≤ℤ◌}
use Rattle.std.specs.Prelude.{ℤ, slice_get, Some, ◌↔◌}
use Rattle.std.specs.List.Sorted.{IsPermutation, IsSortedBy}
use Rattle.std.specs.Ordering.{is_lt, int_cmp, nat_cmp, ordering_then}
use Rattle.std.proofs.Math.Nat.{le-div_iff_mul-le, suc-mul}
use Rattle.std.proofs.lemmas.Bool.{cases_eq}
use Rattle.std.proofs.lemmas.Int.{ints, by_lt_z}
use Rattle.std.proofs.lemmas.List.{length_push}
use Rattle.std.proofs.lemmas.List.Sorted.{Contains-permutation, IsPermutation-sym}
use Rattle.std.proofs.lemmas.Option.{slice_get_within, slice_get-get_or, get_or_from_slice_get}
use Rattle.fz_column.specs.declared.supports.Support.{Support}
use Rattle.fz_column.specs.Supports.{IsIn, IsRising, IsPlaced, HasNumber, IsNumberAt, IsColumnOf}
use Rattle.fz_column.proofs.Slices.{get_last, get_before, get_more, get_append_left}

-- ---- the numbers at a place

-- the number of a row at a place lies in the table
pub number_inside : (table : List ℤ) (width place row : ℕ) → place < width → row < length table / width → row * width + place < length table
number_inside table width place row inside below =
    let whole : suc row * width ≤ length table = (le-div_iff_mul-le {k = width} {x = suc row} {y = length table} (omega (arith, inside))).0 (omega (arith, below)) in
    let more = suc-mul row width in
    omega (arith, whole, more, inside)

-- the rows before one are placed at their numbers
abbrev pub ArePlacedBelow : List ℤ → ℕ → ℕ → List (ℤ × ℕ) → ℕ → Type 0
ArePlacedBelow table width place places row = (n : ℤ) (i : ℕ) → IsPlaced places n i ↔ ((i < row) × (slice_get table (i * width + place) ≡ Some n))

pub placed_more : (table : List ℤ) (width place row : ℕ) (places : List (ℤ × ℕ)) (number : ℤ) → slice_get table (row * width + place) ≡ Some number
    → ArePlacedBelow table width place places row → ArePlacedBelow table width place (places ++ (number, row) ∷ []) (row + 1)
placed_more table width place row places number at h = λ n i. (
  (λ w. elim (get_more places (number, row) w.0 (n, i) w.1) [
    | inl old ↦ let was = (h n i).0 (w.0, old) in let below = was.0 in (omega (arith, below), was.1)
    | inr e ↦
        let of_n : n ≡ number = ap (λ (p : ℤ × ℕ). p.0) e in
        let of_i : i ≡ row = ap (λ (p : ℤ × ℕ). p.1) e in
        (omega (arith, of_i), rw (of_n, of_i) at)
  ]),
  (λ stands. elim (cases_eq i row) [
    | inl e ↦
        let here : slice_get table (row * width + place) ≡ Some n = subst (λ (j : ℕ). slice_get table (j * width + place) ≡ Some n) e stands.1 in
        let same : n ≡ number = cc (here, at) in
        (length places, rw (same, e) (get_last places (number, row)))
    | inr ne ↦
        let below = stands.0 in
        let was = (h n i).1 (omega (arith, below, ne), stands.1) in
        (was.0, get_before places ((number, row) ∷ []) was.0 (n, i) was.1)
  ]),
)

-- ---- in the order of the numbers

moved : (xs ys : List (ℤ × ℕ)) → IsPermutation xs ys → (n : ℤ) (i : ℕ) → IsPlaced xs n i → IsPlaced ys n i
moved xs ys h n i w =
    let inside = slice_get_within xs w.0 (n, i) w.1 in
    let p : ℤ × ℕ = (n, i) in
    let c = Contains-permutation xs ys p h (w.0, inside, get_or_from_slice_get xs w.0 p p w.1) in
    (c.0, slice_get-get_or ys c.0 p c.1 ∙ ap (λ (q : ℤ × ℕ). Some q) c.2)

pub placed_still : (xs ys : List (ℤ × ℕ)) → IsPermutation xs ys → (n : ℤ) (i : ℕ) → IsPlaced ys n i ↔ IsPlaced xs n i
placed_still xs ys h n i = (moved ys xs (IsPermutation-sym xs ys h) n i, moved xs ys h n i)

-- an element that stands before another
earlier : {X : Type 0} (xs : List X) (i j : ℕ) (y : X) → i ≤ j → slice_get xs j ≡ Some y → (x : X) × (slice_get xs i ≡ Some x)
earlier xs i j y le at = let inside = slice_get_within xs j y at in (get_or xs i y, slice_get-get_or xs i y (omega (arith, inside, le)))

rising_on : {X : Type 0} (number : X → ℤ) (xs : List X) → ((k : ℕ) (x y : X) → slice_get xs k ≡ Some x → slice_get xs (suc k) ≡ Some y → number x ≤ℤ number y)
    → (i d : ℕ) (x y : X) → slice_get xs i ≡ Some x → slice_get xs (d + i) ≡ Some y → number x ≤ℤ number y
rising_on number xs step i zero x y at_x at_y = let e : x ≡ y = cc (at_x, (let f : 0 + i ≡ i = omega arith in subst (λ (k : ℕ). slice_get xs k ≡ Some y) f at_y)) in subst (λ (z : _). number x ≤ℤ number z) e (omega (arith, ints))
rising_on number xs step i (suc d) x y at_x at_y =
    let at : slice_get xs (suc (d + i)) ≡ Some y = let f : suc d + i ≡ suc (d + i) = omega arith in subst (λ (k : ℕ). slice_get xs k ≡ Some y) f at_y in
    let z = earlier xs (d + i) (suc (d + i)) y (omega arith) at in
    let before = rising_on number xs step i d x z.0 at_x z.1 in
    let last = step (d + i) z.0 y z.1 at in
    omega (arith, ints, before, last)

pub rising_by_steps : {X : Type 0} (number : X → ℤ) (xs : List X) → ((k : ℕ) (x y : X) → slice_get xs k ≡ Some x → slice_get xs (suc k) ≡ Some y → number x ≤ℤ number y) → IsRising number xs
rising_by_steps number xs step = λ i j x y le at_x at_y.
    let e : j - i + i ≡ j = omega (arith, le) in
    rising_on number xs step i (j - i) x y at_x (subst (λ (k : ℕ). slice_get xs k ≡ Some y) (sym e) at_y)

-- what a sort of numbers with rows says of the numbers
first_not_above : (a b : ℤ × ℕ) → is_lt (ordering_then (int_cmp b.0 a.0) (nat_cmp b.1 a.1)) ≡ false → a.0 ≤ℤ b.0
first_not_above a b e = by_lt_z b.0 a.0 (λ lt. absurd (grind (arith, ints))) (λ le. le)

pub rising_from_sort : (xs : List (ℤ × ℕ)) → IsSortedBy (λ (a b : ℤ × ℕ). is_lt (ordering_then (int_cmp a.0 b.0) (nat_cmp a.1 b.1))) xs → IsRising (λ (p : ℤ × ℕ). p.0) xs
rising_from_sort xs sorted = rising_by_steps (λ (p : ℤ × ℕ). p.0) xs (λ k x y at_x at_y.
    let inside = slice_get_within xs (suc k) y at_y in
    let test = sorted k x (omega arith) (omega (arith, inside)) in
    let is_x : get_or xs k x ≡ x = get_or_from_slice_get xs k x x at_x in
    let is_y : get_or xs (k + 1) x ≡ y = let e : k + 1 ≡ suc k = omega arith in get_or_from_slice_get xs (k + 1) y x (subst (λ (j : ℕ). slice_get xs j ≡ Some y) (sym e) at_y) in
    first_not_above x y (rw (is_x, is_y) at test))

-- ---- a column

pub column_is : (table : List ℤ) (width place : ℕ) (places : List (ℤ × ℕ)) (column : List Support) → ((n : ℤ) (i : ℕ) → IsPlaced places n i ↔ IsNumberAt table width place i n)
    → ((n : ℤ) (i : ℕ) → HasNumber column n i ↔ IsPlaced places n i) → ((s : Support) → IsIn s column → (n : ℤ) × (i : ℕ) × IsPlaced places n i × (s.rows.word ≡ i / 64))
    → IsColumnOf table width place column
column_is table width place places column are rows words = record {
  sized = λ s is.
      let w = words s is in
      let below = ((are w.0 w.1).0 w.2).0 in
      let word = w.3 in
      omega (arith, below, word);
  rows = λ n i. ((λ h. (are n i).0 ((rows n i).0 h)), (λ h. (rows n i).1 ((are n i).1 h)));
}

-- ---- the columns

-- the columns before a place
pub record AreColumnsBelow (table : List ℤ) (width : ℕ) (columns : List (List Support)) (place : ℕ) : Type 0 where
  pub size : length columns ≡ place
  pub each : (j : ℕ) (column : List Support) → slice_get columns j ≡ Some column → IsColumnOf table width j column

pub columns_more : (table : List ℤ) (width : ℕ) (columns : List (List Support)) (place : ℕ) (column : List Support) → IsColumnOf table width place column
    → AreColumnsBelow table width columns place → AreColumnsBelow table width (columns ++ column ∷ []) (place + 1)
columns_more table width columns place column is h = record {
  size = let size = h.size in length_push columns column ∙ (let e : length columns + 1 ≡ place + 1 = omega (arith, size) in e);
  each = λ j other at. elim (cases_eq j place) [
    | inl e ↦
        let last : slice_get (columns ++ column ∷ []) place ≡ Some column = subst (λ (k : ℕ). slice_get (columns ++ column ∷ []) k ≡ Some column) h.size (get_last columns column) in
        let here : slice_get (columns ++ column ∷ []) place ≡ Some other = subst (λ (k : ℕ). slice_get (columns ++ column ∷ []) k ≡ Some other) e at in
        let same : other ≡ column = cc (here, last) in
        subst (λ (k : ℕ). IsColumnOf table width k other) (sym e) (subst (IsColumnOf table width place) (sym same) is)
    | inr ne ↦
        let size = h.size in
        let long : length (columns ++ column ∷ []) ≡ length columns + 1 = length_push columns column in
        let inside = slice_get_within (columns ++ column ∷ []) j other at in
        h.each j other (sym (get_append_left columns (column ∷ []) j (omega (arith, long, inside, size, ne))) ∙ at)
  ];
}
