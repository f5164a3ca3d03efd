-- Supports that are made of numbers and rows, in the order of the numbers, and the supports of some numbers.
use Rattle.std.proofs.Common.{◌≡◌, ℕ, ◌+◌, ◌/◌, ◌<◌, ◌≤◌, List, [], ◌∷◌, ◌++◌, ◌⊎◌, inl, inr, refl, sym, ap, subst, ◌∙◌, arith, length, get_or, ◌≤ℤ◌}
use Rattle.std.specs.Prelude.{ℤ, slice_get, Some, ◌↔◌, int_lt, int_le}
use Rattle.std.specs.List.Sorted.{IsPartitionedBy}
use Rattle.std.proofs.lemmas.Bool.{cases_eq}
use Rattle.std.proofs.lemmas.Int.{ints}
use Rattle.std.proofs.lemmas.Option.{slice_get_within, slice_get-get_or}
use Rattle.fz_column.specs.declared.supports.Support.{Support}
use Rattle.fz_bits.specs.Members.{IsOneOf}
use Rattle.fz_column.specs.Supports.{IsIn, AreInOrder, IsRising, HasNumber, IsPlaced, IsAdded}
use Rattle.fz_column.proofs.Slices.{get_last, get_before, get_more, get_append_left}

-- ---- a support more

pub in_push : (xs : List Support) (x s : Support) → IsIn s (xs ++ x ∷ []) ↔ (IsIn s xs ⊎ (s ≡ x))
in_push xs x s = (
  (λ h. elim (get_more xs x h.0 s h.1) [ inl old ↦ inl (h.0, old) | inr e ↦ inr e ]),
  (λ h. elim h [ inl old ↦ (old.0, get_before xs (x ∷ []) old.0 s old.1) | inr e ↦ (length xs, get_last xs x ∙ ap (λ (y : Support). Some y) (sym e)) ]),
)

order_push : (xs : List Support) (y : Support) → AreInOrder xs → ((s : Support) → IsIn s xs → s.number ≤ℤ y.number) → AreInOrder (xs ++ y ∷ [])
order_push xs y order bound = λ i j s t le at_s at_t. elim (get_more xs y j t at_t) [
  | inl old ↦
      let inside = slice_get_within xs j t old in
      order i j s t le (sym (get_append_left xs (y ∷ []) i (omega (arith, inside, le))) ∙ at_s) old
  | inr last ↦
      let of_y : t.number ≡ y.number = ap (λ (u : Support). u.number) last in
      elim (get_more xs y i s at_s) [
        | inl old ↦ let below = bound s (i, old) in omega (arith, ints, below, of_y)
        | inr one ↦ let of_s : s.number ≡ y.number = ap (λ (u : Support). u.number) one in omega (arith, ints, of_s, of_y)
      ]
]

order_front : (xs ys : List Support) → AreInOrder (xs ++ ys) → AreInOrder xs
order_front xs ys order = λ i j s t le at_s at_t. order i j s t le (get_before xs ys i s at_s) (get_before xs ys j t at_t)

-- a row with a support of its own
pub added_new : (xs : List Support) (fresh : Support) (number : ℤ) (row : ℕ) → fresh.number ≡ number → fresh.rows.word ≡ row / 64 → ((i : ℕ) → IsOneOf fresh.rows i ↔ (i ≡ row))
    → AreInOrder xs → ((s : Support) → IsIn s xs → s.number ≤ℤ number) → IsAdded xs (xs ++ fresh ∷ []) number row
added_new xs fresh number row number_is word_is rows order bound = record {
  order = order_push xs fresh order (λ s is. let below = bound s is in omega (arith, ints, below, number_is));
  bound = λ s is. elim ((in_push xs fresh s).0 is) [
    | inl old ↦ bound s old
    | inr e ↦ let of_s : s.number ≡ fresh.number = ap (λ (u : Support). u.number) e in omega (arith, ints, of_s, number_is)
  ];
  rows = λ n i. (
    (λ h. elim ((in_push xs fresh h.0).0 h.1) [
      | inl old ↦ inl (h.0, old, h.2, h.3)
      | inr e ↦ inr (
        sym h.2 ∙ ap (λ (u : Support). u.number) e ∙ number_is,
        (rows i).0 (subst (λ (u : Support). IsOneOf u.rows i) e h.3),
      )
    ]),
    (λ h. elim h [
      | inl old ↦ (old.0, (in_push xs fresh old.0).1 (inl old.1), old.2, old.3)
      | inr new ↦ (fresh, (in_push xs fresh fresh).1 (inr refl), number_is ∙ sym new.0, (rows i).1 new.1)
    ]),
  );
  words = λ s is. elim ((in_push xs fresh s).0 is) [ inl old ↦ inl (s, old, refl) | inr e ↦ inr (ap (λ (u : Support). u.rows.word) e ∙ word_is) ];
}

-- a row with the rows of the last support
pub added_to : (xs : List Support) (last new : Support) (number : ℤ) (row : ℕ) → last.number ≡ number → last.rows.word ≡ row / 64 → new.number ≡ last.number → new.rows.word ≡ last.rows.word
    → ((i : ℕ) → IsOneOf new.rows i ↔ (IsOneOf last.rows i ⊎ (i ≡ row)))
    → AreInOrder (xs ++ last ∷ []) → ((s : Support) → IsIn s (xs ++ last ∷ []) → s.number ≤ℤ number) → IsAdded (xs ++ last ∷ []) (xs ++ new ∷ []) number row
added_to xs last new number row number_is word_is same same_word rows order bound =
    let before : (s : Support) → IsIn s xs → IsIn s (xs ++ last ∷ []) = λ s is. (in_push xs last s).1 (inl is) in
    let of_last : IsIn last (xs ++ last ∷ []) = (in_push xs last last).1 (inr refl) in
    record {
      order = order_push xs new (order_front xs (last ∷ []) order) (λ s is. let below = bound s (before s is) in omega (arith, ints, below, number_is, same));
      bound = λ s is. elim ((in_push xs new s).0 is) [
        | inl old ↦ bound s (before s old)
        | inr e ↦ let of_s : s.number ≡ new.number = ap (λ (u : Support). u.number) e in omega (arith, ints, of_s, number_is, same)
      ];
      rows = λ n i. (
        (λ h. elim ((in_push xs new h.0).0 h.1) [
          | inl old ↦ inl (h.0, before h.0 old, h.2, h.3)
          | inr e ↦
              let of_n : n ≡ last.number = sym h.2 ∙ ap (λ (u : Support). u.number) e ∙ same in
              elim ((rows i).0 (subst (λ (u : Support). IsOneOf u.rows i) e h.3)) [
                | inl had ↦ inl (last, of_last, sym of_n, had)
                | inr one ↦ inr (of_n ∙ number_is, one)
              ]
        ]),
        (λ h. elim h [
          | inl old ↦ elim ((in_push xs last old.0).0 old.1) [
            | inl kept ↦ (old.0, (in_push xs new old.0).1 (inl kept), old.2, old.3)
            | inr e ↦ (
              new,
              (in_push xs new new).1 (inr refl),
              same ∙ sym (ap (λ (u : Support). u.number) e) ∙ old.2,
              (rows i).1 (inl (subst (λ (u : Support). IsOneOf u.rows i) e old.3)),
            )
          ]
          | inr one ↦ (new, (in_push xs new new).1 (inr refl), same ∙ number_is ∙ sym one.0, (rows i).1 (inr one.1))
        ]),
      );
      words = λ s is. elim ((in_push xs new s).0 is) [
        | inl old ↦ inl (s, before s old, refl)
        | inr e ↦ inr (ap (λ (u : Support). u.rows.word) e ∙ same_word ∙ word_is)
      ];
    }

-- ---- the loop over numbers and rows

-- a number and a row stand before place k
abbrev pub IsPlacedBelow : List (ℤ × ℕ) → ℕ → ℤ → ℕ → Type 0
IsPlacedBelow places k n i = (j : ℕ) × (j < k) × (slice_get places j ≡ Some (n, i))

pub record IsGathered (places : List (ℤ × ℕ)) (supports : List Support) (k : ℕ) : Type 0 where
  pub order : AreInOrder supports
  pub bound : (s : Support) (j : ℕ) (p : ℤ × ℕ) → IsIn s supports → k ≤ j → slice_get places j ≡ Some p → s.number ≤ℤ p.0
  pub rows : (n : ℤ) (i : ℕ) → HasNumber supports n i ↔ IsPlacedBelow places k n i
  pub words : (s : Support) → IsIn s supports → (n : ℤ) × (i : ℕ) × IsPlacedBelow places k n i × (s.rows.word ≡ i / 64)

pub gathered_none : (places : List (ℤ × ℕ)) → IsGathered places [] 0
gathered_none places = record {
  order = λ i j s t le at_s at_t. absurd (cc (at_s));
  bound = λ s j p is le at. absurd (let none = is.1 in cc (none));
  rows = λ n i. ((λ h. absurd (let none = h.1.1 in cc (none))), (λ h. absurd (let below = h.1 in omega (arith, below))));
  words = λ s is. absurd (let none = is.1 in cc (none));
}

placed_on : (places : List (ℤ × ℕ)) (k : ℕ) (n : ℤ) (i : ℕ) → IsPlacedBelow places k n i → IsPlacedBelow places (k + 1) n i
placed_on places k n i h = let below = h.1 in (h.0, omega (arith, below), h.2)

pub gathered_more : (places : List (ℤ × ℕ)) (old new : List Support) (k : ℕ) (p : ℤ × ℕ) → slice_get places k ≡ Some p → IsRising (λ (q : ℤ × ℕ). q.0) places
    → IsAdded old new p.0 p.1 → IsGathered places old k → IsGathered places new (k + 1)
gathered_more places old new k p at rising added h = record {
  order = added.order;
  bound = λ s j q is le at_q.
      let below = added.bound s is in
      let up = rising k j p q (omega (arith, le)) at at_q in
      omega (arith, ints, below, up);
  rows = λ n i. (
    (λ has. elim ((added.rows n i).0 has) [
      | inl before ↦ placed_on places k n i ((h.rows n i).0 before)
      | inr one ↦
          (k, omega arith, rw (one.0, one.1) at)
    ]),
    (λ w. elim (cases_eq w.0 k) [
      | inl e ↦
          let here : slice_get places k ≡ Some (n, i) = subst (λ (j : ℕ). slice_get places j ≡ Some (n, i)) e w.2 in
          let is : (n, i) ≡ p = cc (here, at) in
          (added.rows n i).1 (inr (ap (λ (q : ℤ × ℕ). q.0) is, ap (λ (q : ℤ × ℕ). q.1) is))
      | inr ne ↦ let below = w.1 in (added.rows n i).1 (inl ((h.rows n i).1 (w.0, omega (arith, below, ne), w.2)))
    ]),
  );
  words = λ s is. elim (added.words s is) [
    | inl before ↦ let w = h.words before.0 before.1 in (w.0, w.1, placed_on places k w.0 w.1 w.2, before.2 ∙ w.3)
    | inr word ↦ (p.0, p.1, (k, omega arith, at), word)
  ];
}

pub gathered_rows : (places : List (ℤ × ℕ)) (supports : List Support) (k : ℕ) → length places ≤ k → IsGathered places supports k
    → (n : ℤ) (i : ℕ) → HasNumber supports n i ↔ IsPlaced places n i
gathered_rows places supports k end h = λ n i. (
  (λ has. let w = (h.rows n i).0 has in (w.0, w.2)),
  (λ w. let inside = slice_get_within places w.0 (n, i) w.1 in (h.rows n i).1 (w.0, omega (arith, inside, end), w.1)),
)

pub gathered_words : (places : List (ℤ × ℕ)) (supports : List Support) (k : ℕ) → IsGathered places supports k
    → (s : Support) → IsIn s supports → (n : ℤ) × (i : ℕ) × IsPlaced places n i × (s.rows.word ≡ i / 64)
gathered_words places supports k h = λ s is. let w = h.words s is in (w.0, w.1, (w.2.0, w.2.2), w.3)

-- ---- the supports of some numbers

pub partitioned_below : (xs : List Support) (value : ℤ) → AreInOrder xs → IsPartitionedBy (λ (s : Support). int_lt s.number value) xs
partitioned_below xs value order = λ i j d le inside test.
    let up = order i j (get_or xs i d) (get_or xs j d) le (slice_get-get_or xs i d (omega (arith, le, inside))) (slice_get-get_or xs j d inside) in
    grind (arith, ints)

pub partitioned_to : (xs : List Support) (value : ℤ) → AreInOrder xs → IsPartitionedBy (λ (s : Support). int_le s.number value) xs
partitioned_to xs value order = λ i j d le inside test.
    let up = order i j (get_or xs i d) (get_or xs j d) le (slice_get-get_or xs i d (omega (arith, le, inside))) (slice_get-get_or xs j d inside) in
    grind (arith, ints)
