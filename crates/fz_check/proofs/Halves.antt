-- What a search by halves finds among rows that rise by their names.
use Rattle.std.proofs.Common.{◌≡◌, ℕ, zero, suc, ◌<◌, ◌≤◌, Bool, true, false, cond, Option, Some, None, List, [], ◌∷◌, map, length, get_or, refl, sym, ap, ◌∙◌, subst, inl, inr, arith, Ordering, Less, Equal, Greater}
use Rattle.std.specs.Prelude.{find, bytes_eq}
use Rattle.std.specs.Ordering.{is_lt, is_eq, nat_cmp, ordering_index, ordering_reverse}
use Rattle.std.specs.Cmp.Lexicographic.{slice_cmp}
use Rattle.std.specs.List.Sorted.{IsNonDecreasingBy, IsPartitionPoint}
use Rattle.std.proofs.lemmas.Bool.{and_parts, cases_lt}
use Rattle.std.proofs.lemmas.List.{get_or-map, length-map}
use Rattle.std.proofs.lemmas.Cmp.{nat_list_cmp_total}
use Rattle.std.proofs.lemmas.Map.Text.{is_eq-slice_cmp}
use Rattle.std.proofs.lemmas.Map.Lookups.{exact_bytes}
use Rattle.fz_spec.specs.Signatures.{Row}
use Rattle.fz_check.specs.Rows.{are_rising}

abbrev compare : List ℕ → List ℕ → Ordering
compare = slice_cmp nat_cmp

is_below : (o : Ordering) → is_lt o ≡ true → o ≡ Less
is_below Less e = refl
is_below Equal e = cc
is_below Greater e = cc

-- ---- one comparison

unequal_below : (name a : List ℕ) → compare a name ≡ Less → bytes_eq name a ≡ false
unequal_below name a e = sym (is_eq-slice_cmp name a) ∙ ap is_eq (nat_list_cmp_total.antisymm name a ∙ ap ordering_reverse e)

unequal_above : (name a : List ℕ) → compare a name ≡ Greater → bytes_eq name a ≡ false
unequal_above name a e = sym (is_eq-slice_cmp name a) ∙ ap is_eq (nat_list_cmp_total.antisymm name a ∙ ap ordering_reverse e)

equal : (name a : List ℕ) → compare a name ≡ Equal → bytes_eq name a ≡ true
equal name a e = sym (is_eq-slice_cmp name a) ∙ ap is_eq (nat_list_cmp_total.antisymm name a ∙ ap ordering_reverse e)

index_below : (a b name : List ℕ) → compare a b ≡ Less → ordering_index (compare a name) ≤ ordering_index (compare b name)
index_below a b name l = go (compare b name) refl (compare a name) refl
  where
    go : (o : Ordering) → compare b name ≡ o → (p : Ordering) → compare a name ≡ p → ordering_index p ≤ ordering_index o
    go Less e p k = let is : p ≡ Less = sym k ∙ nat_list_cmp_total.trans a b name l e in subst (λ (q : Ordering). ordering_index q ≤ 0) (sym is) (omega arith)
    go Equal e p k =
        let is : p ≡ Less = sym k ∙ subst (λ (n : List ℕ). compare a n ≡ Less) (exact_bytes b name e) l in
        subst (λ (q : Ordering). ordering_index q ≤ 1) (sym is) (omega arith)
    go Greater e Less k = omega arith
    go Greater e Equal k = omega arith
    go Greater e Greater k = omega arith

-- ---- rows that rise

first_below : (r s : Row) (rows : List Row) → are_rising (r ∷ s ∷ rows) ≡ true → compare r.name s.name ≡ Less
first_below r s rows h = is_below (compare r.name s.name) (and_parts (is_lt (compare r.name s.name)) (are_rising (s ∷ rows)) h).0

others_rise : (r : Row) (rows : List Row) → are_rising (r ∷ rows) ≡ true → are_rising rows ≡ true
others_rise r [] h = refl
others_rise r (s ∷ rows) h = (and_parts (is_lt (compare r.name s.name)) (are_rising (s ∷ rows)) h).1

below_later : (r : Row) (rows : List Row) (j : ℕ) (d : Row) → are_rising (r ∷ rows) ≡ true → j < length rows → compare r.name (get_or rows j d).name ≡ Less
below_later r [] j d h l = absurd (omega (arith, l))
below_later r (s ∷ rows) zero d h l = first_below r s rows h
below_later r (s ∷ rows) (suc j) d h l =
    nat_list_cmp_total.trans r.name s.name (get_or rows j d).name (first_below r s rows h) (below_later s rows j d (others_rise r (s ∷ rows) h) (omega (arith, l)))

index_rises : (rows : List Row) (name : List ℕ) (i j : ℕ) (d : Row) → are_rising rows ≡ true → i ≤ j → j < length rows
    → ordering_index (compare (get_or rows i d).name name) ≤ ordering_index (compare (get_or rows j d).name name)
index_rises [] name i j d h k l = absurd (omega (arith, l))
index_rises (r ∷ rows) name zero zero d h k l = omega arith
index_rises (r ∷ rows) name zero (suc j) d h k l = index_below r.name (get_or rows j d).name name (below_later r rows j d h (omega (arith, l)))
index_rises (r ∷ rows) name (suc i) zero d h k l = absurd (omega (arith, k))
index_rises (r ∷ rows) name (suc i) (suc j) d h k l = index_rises rows name i j d (others_rise r rows h) (omega (arith, k)) (omega (arith, l))

-- ---- the row that is found

abbrev with_name : List ℕ → List Row → Option Row
with_name name rows = find (λ (row : Row). bytes_eq name row.name) rows

found_here : (rows : List Row) (name : List ℕ) (i : ℕ) (d : Row) → are_rising rows ≡ true → i < length rows → compare (get_or rows i d).name name ≡ Equal → Some (get_or rows i d) ≡ with_name name rows
found_here [] name i d h l e = absurd (omega (arith, l))
found_here (r ∷ rows) name zero d h l e = ap (λ (b : Bool). cond b (Some r) (with_name name rows)) (sym (equal name r.name e))
found_here (r ∷ rows) name (suc i) d h l e =
    let below : compare r.name name ≡ Less = subst (λ (n : List ℕ). compare r.name n ≡ Less) (exact_bytes (get_or rows i d).name name e) (below_later r rows i d h (omega (arith, l))) in
    found_here rows name i d (others_rise r rows h) (omega (arith, l)) e ∙ ap (λ (b : Bool). cond b (Some r) (with_name name rows)) (sym (unequal_below name r.name below))

none_here : {X : Type 0} (f : X → Row) (xs : List X) (name : List ℕ) → ((i : ℕ) (d : X) → i < length xs → bytes_eq name (f (get_or xs i d)).name ≡ false) → None ≡ with_name name (map f xs)
none_here f [] name h = refl
none_here f (x ∷ xs) name h = none_here f xs name (λ i d l. h (suc i) d (omega (arith, l))) ∙ ap (λ (b : Bool). cond b (Some (f x)) (with_name name (map f xs))) (sym (h 0 x (omega arith)))

-- ---- the rows of the table

pub found_row : {X : Type 0} (f : X → Row) (xs : List X) (name : List ℕ) (i : ℕ) (d : X) → are_rising (map f xs) ≡ true → i < length xs → ((x : X) → compare (f (get_or xs i x)).name name ≡ Equal)
    → Some (f (get_or xs i d)) ≡ find (λ (row : Row). bytes_eq name row.name) (map f xs)
found_row f xs name i d h l e =
    let there = get_or-map f xs i d (f d) l in
    ap Some (sym there) ∙ found_here (map f xs) name i (f d) h (omega (arith, l, length-map xs f)) (ap (λ (r : Row). compare r.name name) there ∙ e d)

pub no_row : {X : Type 0} (f : X → Row) (xs : List X) (name : List ℕ) (i : ℕ) → are_rising (map f xs) ≡ true
    → (IsNonDecreasingBy (λ y. ordering_index (compare (f y).name name)) xs → IsPartitionPoint (λ y. compare (f y).name name ≡ Less) (λ y. compare (f y).name name ≡ Greater) xs i)
    → None ≡ find (λ (row : Row). bytes_eq name row.name) (map f xs)
no_row {X} f xs name i h parts = none_here f xs name apart
  where
    rises : IsNonDecreasingBy (λ y. ordering_index (compare (f y).name name)) xs
    rises i j d k l =
        let a = get_or-map f xs i d (f d) (omega (arith, k, l)) in
        let b = get_or-map f xs j d (f d) l in
        let r = index_rises (map f xs) name i j (f d) h k (omega (arith, l, length-map xs f)) in
        subst (λ (q : Row). ordering_index (compare (f (get_or xs i d)).name name) ≤ ordering_index (compare q.name name)) b
        (subst (λ (q : Row). ordering_index (compare q.name name) ≤ ordering_index (compare (get_or (map f xs) j (f d)).name name)) a r)

    apart : (k : ℕ) (d : X) → k < length xs → bytes_eq name (f (get_or xs k d)).name ≡ false
    apart k d l = elim (cases_lt k i) [
      | inl before ↦ unequal_below name (f (get_or xs k d)).name ((parts rises).0 k d (omega arith) before)
      | inr behind ↦ unequal_above name (f (get_or xs k d)).name ((parts rises).1 k d behind l)
    ]
