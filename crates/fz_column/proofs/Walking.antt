-- The loops over the supports of a column from a place on, and the supports of a range between two places.
use Rattle.std.proofs.Common.{◌≡◌, ℕ, ◌+◌, ◌<◌, ◌≤◌, List, [], ◌∷◌, ◌++◌, ◌⊎◌, inl, inr, ◌≤ℤ◌, ◌<ℤ◌, refl, sym, ap, subst, ◌∙◌, arith, length}
use Rattle.std.specs.Prelude.{ℤ, slice_get, Some, ◌↔◌}
use Rattle.std.specs.List.{AllWithin}
use Rattle.std.proofs.lemmas.Bool.{cases_eq, cases_lt}
use Rattle.std.proofs.lemmas.Int.{ints}
use Rattle.std.proofs.lemmas.Option.{slice_get_within, get_or_from_slice_get}
use Rattle.fz_sets.specs.Sets.{IsInSet, IsInRange, AreRanges}
use Rattle.fz_dom.proofs.Ranges.{AreRanges-tail, lower_bound, above_gap}
use Rattle.fz_column.specs.declared.supports.Support.{Support}
use Rattle.fz_bits.specs.Members.{HasMember, IsOneOf}
use Rattle.fz_column.specs.Supports.{AreInOrder, StandsIn, IsLeftIn, IsNext, AreEnds, IsFirst, IsEnd, HasOneBetween, StandsBetween}
use Rattle.fz_column.proofs.Slices.{get_more, get_append_left}

-- a support has what all from a place to another have
of_all : (P : Support → Type 0) (xs : List Support) (low high k : ℕ) (s : Support) → AllWithin P xs low high → slice_get xs k ≡ Some s → low ≤ k → k < high → P s
of_all P xs low high k s all at past below = subst P (get_or_from_slice_get xs k s s at) (all k s past below)

-- ---- where the next number begins

pub ends_none : (column : List Support) → AreEnds column []
ends_none column = λ k end at. absurd (cc (at))

length_more : (xs : List ℕ) (x : ℕ) → length (xs ++ x ∷ []) ≡ length xs + 1
length_more [] x = refl
length_more (y ∷ ys) x = let more = length_more ys x in omega (arith, more)

-- where a list with one more has this place
place_more : (ends : List ℕ) (end n k e : ℕ) → length ends ≡ n → slice_get (ends ++ end ∷ []) k ≡ Some e → (slice_get ends k ≡ Some e) ⊎ ((k ≡ n) × (e ≡ end))
place_more ends end n k e size at = elim (cases_lt k (length ends)) [
  | inl below ↦ inl (sym (get_append_left ends (end ∷ []) k below) ∙ at)
  | inr past ↦ elim (get_more ends end k e at) [
    | inl old ↦ inl old
    | inr is ↦
        let inside = slice_get_within (ends ++ end ∷ []) k e at in
        inr (omega (arith, past, inside, size, length_more ends end), is)
  ]
]

-- the end of the supports whose numbers are at or below a support's comes next
next_end : (column : List Support) (n end : ℕ) (x : Support) → AreInOrder column → slice_get column n ≡ Some x → end ≤ length column
    → AllWithin (λ (s : Support). s.number ≤ℤ x.number) column 0 end → AllWithin (λ (s : Support). x.number <ℤ s.number) column end (length column) → IsNext column n end
next_end column n end x order at inside to above = record {
  further = elim (cases_lt n end) [
    | inl below ↦ below
    | inr past ↦
        let over = of_all (λ (s : Support). x.number <ℤ s.number) column end (length column) n x above at past (slice_get_within column n x at) in
        absurd (omega (arith, ints, over))
  ];
  inside = inside;
  same = λ j s t at_s at_t past under.
      let is_s : s ≡ x = cc (at, at_s) in
      let number_is : s.number ≡ x.number = ap (λ (u : Support). u.number) is_s in
      let up = order n j s t past at_s at_t in
      let down = of_all (λ (u : Support). u.number ≤ℤ x.number) column 0 end j t to at_t (omega arith) under in
      omega (arith, ints, number_is, up, down);
}

-- the ends of the supports before a place
abbrev pub AreEndsBelow : List Support → List ℕ → ℕ → Type 0
AreEndsBelow column ends n = (length ends ≡ n) × AreEnds column ends

pub ends_more : (column : List Support) (ends : List ℕ) (n end : ℕ) (x : Support) → AreInOrder column → slice_get column n ≡ Some x → end ≤ length column
    → AllWithin (λ (s : Support). s.number ≤ℤ x.number) column 0 end → AllWithin (λ (s : Support). x.number <ℤ s.number) column end (length column)
    → AreEndsBelow column ends n → AreEndsBelow column (ends ++ end ∷ []) (n + 1)
ends_more column ends n end x order at inside to above h =
    let size = h.0 in (
      omega (arith, size, length_more ends end),
      λ k e at_e. elim (place_more ends end n k e size at_e) [
        | inl old ↦ h.1 k e old
        | inr new ↦
            let is : IsNext column n e = subst (IsNext column n) (sym new.1) (next_end column n end x order at inside to above) in
            subst (λ (i : ℕ). IsNext column i e) (sym new.0) is
      ],
    )

-- a place that is not listed
pub next_place : (column : List Support) (place : ℕ) → place < length column → IsNext column place (place + 1)
next_place column place below = record {
  further = omega arith;
  inside = omega (arith, below);
  same = λ j s t at_s at_t past under.
      let is : j ≡ place = omega (arith, past, under) in
      let P : ℕ → Type 0 = λ (i : ℕ). slice_get column i ≡ Some t in
      let same : t ≡ s = cc (at_s, subst P is at_t) in
      ap (λ (u : Support). u.number) same;
}

-- ---- the first support at or above a value

-- from the place up to this one the numbers are below the value
pub record AreBelow (column : List Support) (place : ℕ) (value : ℤ) (first : ℕ) : Type 0 where
  pub from : place ≤ first
  pub to : first ≤ length column
  pub below : (k : ℕ) (s : Support) → place ≤ k → k < first → slice_get column k ≡ Some s → s.number <ℤ value

pub below_none : (column : List Support) (place : ℕ) (value : ℤ) → place ≤ length column → AreBelow column place value place
below_none column place value inside = record {
  from = omega arith;
  to = inside;
  below = λ k s past under. absurd (omega (arith, past, under));
}

pub below_more : (column : List Support) (place : ℕ) (value : ℤ) (first end : ℕ) (x : Support) → IsNext column first end → slice_get column first ≡ Some x → x.number <ℤ value
    → AreBelow column place value first → AreBelow column place value end
below_more column place value first end x next at low h =
    let further = next.further in
    let from = h.from in
    record {
      from = omega (arith, further, from);
      to = next.inside;
      below = λ k s past under at_s. elim (cases_lt k first) [
        | inl before ↦ h.below k s past before at_s
        | inr after ↦ let same = next.same k x s at at_s after under in omega (arith, ints, same, low)
      ];
    }

pub first_at : (column : List Support) (place : ℕ) (value : ℤ) (first : ℕ) (x : Support) → AreInOrder column → slice_get column first ≡ Some x → value ≤ℤ x.number → AreBelow column place value first
    → IsFirst column place value first
first_at column place value first x order at high h = record {
  from = h.from;
  to = h.to;
  below = h.below;
  above = λ k s past at_s. let up = order first k x s past at at_s in omega (arith, ints, up, high);
}

pub first_last : (column : List Support) (place : ℕ) (value : ℤ) (first : ℕ) → length column ≤ first → AreBelow column place value first → IsFirst column place value first
first_last column place value first end h = record {
  from = h.from;
  to = h.to;
  below = h.below;
  above = λ k s past at_s. let inside = slice_get_within column k s at_s in absurd (omega (arith, end, past, inside));
}

pub first_far : (column : List Support) (place : ℕ) (value : ℤ) (first n result : ℕ) → n ≤ length column → AllWithin (λ (s : Support). s.number <ℤ value) column 0 n
    → AllWithin (λ (s : Support). value ≤ℤ s.number) column n (length column) → AreBelow column place value first → first ≤ result → n ≤ result → (result ≡ first) ⊎ (result ≡ n)
    → IsFirst column place value result
first_far column place value first n result inside under over h past_first past_n one =
    let from = h.from in
    let to = h.to in
    record {
      from = omega (arith, from, past_first);
      to = elim one [ inl is ↦ omega (arith, is, to) | inr is ↦ omega (arith, is, inside) ];
      below = λ k s past before at_s. elim one [
        | inl is ↦ h.below k s past (omega (arith, before, is)) at_s
        | inr is ↦ of_all (λ (u : Support). u.number <ℤ value) column 0 n k s under at_s (omega arith) (omega (arith, before, is))
      ];
      above = λ k s past at_s. of_all (λ (u : Support). value ≤ℤ u.number) column n (length column) k s over at_s (omega (arith, past, past_n)) (slice_get_within column k s at_s);
    }

-- ---- the end of those at or below a value

-- from the place up to this one the numbers are at or below the value
pub record AreUpTo (column : List Support) (place : ℕ) (value : ℤ) (end : ℕ) : Type 0 where
  pub from : place ≤ end
  pub to : end ≤ length column
  pub within : (k : ℕ) (s : Support) → place ≤ k → k < end → slice_get column k ≡ Some s → s.number ≤ℤ value

-- up to a place after it all have its number
pub up_to_more : (column : List Support) (place : ℕ) (value : ℤ) (end new : ℕ) (x : Support) → slice_get column end ≡ Some x → x.number ≤ℤ value → end < new → new ≤ length column
    → ((j : ℕ) (t : Support) → slice_get column j ≡ Some t → end ≤ j → j < new → t.number ≡ x.number) → AreUpTo column place value end → AreUpTo column place value new
up_to_more column place value end new x at low further inside same h =
    let from = h.from in
    record {
      from = omega (arith, further, from);
      to = inside;
      within = λ k s past under at_s. elim (cases_lt k end) [
        | inl before ↦ h.within k s past before at_s
        | inr after ↦ let is = same k s at_s after under in omega (arith, ints, is, low)
      ];
    }

pub one_more : (column : List Support) (end : ℕ) (x : Support) → slice_get column end ≡ Some x → (j : ℕ) (t : Support) → slice_get column j ≡ Some t → end ≤ j → j < end + 1 → t.number ≡ x.number
one_more column end x at j t at_t past under =
    let is : j ≡ end = omega (arith, past, under) in
    let P : ℕ → Type 0 = λ (i : ℕ). slice_get column i ≡ Some t in
    let same : t ≡ x = cc (at, subst P is at_t) in
    ap (λ (u : Support). u.number) same

pub end_at : (column : List Support) (place : ℕ) (value : ℤ) (end : ℕ) (x : Support) → AreInOrder column → slice_get column end ≡ Some x → value <ℤ x.number → AreUpTo column place value end
    → IsEnd column place value end
end_at column place value end x order at high h = record {
  from = h.from;
  to = h.to;
  within = h.within;
  beyond = λ k s past at_s. let up = order end k x s past at at_s in omega (arith, ints, up, high);
}

pub end_last : (column : List Support) (place : ℕ) (value : ℤ) (end : ℕ) → length column ≤ end → AreUpTo column place value end → IsEnd column place value end
end_last column place value end last h = record {
  from = h.from;
  to = h.to;
  within = h.within;
  beyond = λ k s past at_s. let inside = slice_get_within column k s at_s in absurd (omega (arith, last, past, inside));
}

-- ---- the rows that are put into a set

-- the rows of the supports from a place up to this one
abbrev pub AreJoinedTo : List Support → ℕ → List ℕ → List ℕ → ℕ → Type 0
AreJoinedTo column place old rows end = (i : ℕ) → HasMember rows i ↔ (HasMember old i ⊎ HasOneBetween column place end i)

pub joined_next : (column : List Support) (place : ℕ) (old rows new : List ℕ) (end : ℕ) (x : Support) → place ≤ end → slice_get column end ≡ Some x
    → ((i : ℕ) → HasMember new i ↔ (HasMember rows i ⊎ IsOneOf x.rows i)) → AreJoinedTo column place old rows end → AreJoinedTo column place old new (end + 1)
joined_next column place old rows new end x from at more h = λ i. (
  (λ has. elim ((more i).0 has) [
    | inl before ↦ elim ((h i).0 before) [ inl had ↦ inl had | inr w ↦ let under = w.3 in inr (w.0, w.1, w.2, omega (arith, under), w.4, w.5) ]
    | inr here ↦ inr (end, x, from, omega arith, at, here)
  ]),
  (λ g. elim g [
    | inl had ↦ (more i).1 (inl ((h i).1 (inl had)))
    | inr w ↦ elim (cases_eq w.0 end) [
      | inl e ↦
          let P : ℕ → Type 0 = λ (k : ℕ). slice_get column k ≡ Some w.1 in
          let is : w.1 ≡ x = cc (subst P e w.4, at) in
          (more i).1 (inr (subst (λ (t : Support). IsOneOf t.rows i) is w.5))
      | inr ne ↦ let under = w.3 in (more i).1 (inl ((h i).1 (inr (w.0, w.1, w.2, omega (arith, under, ne), w.4, w.5))))
    ]
  ]),
)

-- ---- the numbers that are added

-- the numbers of the supports from a place up to this one that have some rows
abbrev pub AreAddedTo : List Support → List ℕ → ℕ → List (ℤ × ℤ) → List (ℤ × ℤ) → ℕ → Type 0
AreAddedTo column rows place old numbers end = (n : ℤ) → IsInSet numbers n ↔ (IsInSet old n ⊎ StandsBetween column rows place end n)

-- a support that has none of the rows is passed
pub added_passed : (column : List Support) (rows : List ℕ) (place : ℕ) (old numbers : List (ℤ × ℤ)) (end : ℕ) (x : Support) → slice_get column end ≡ Some x
    → (((i : ℕ) × HasMember rows i × IsOneOf x.rows i) → ⊥) → AreAddedTo column rows place old numbers end → AreAddedTo column rows place old numbers (end + 1)
added_passed column rows place old numbers end x at none h = λ n. (
  (λ has. elim ((h n).0 has) [ inl had ↦ inl had | inr w ↦ let under = w.3 in inr (w.0, w.1, w.2, omega (arith, under), w.4, w.5, w.6, w.7, w.8) ]),
  (λ g. elim g [
    | inl had ↦ (h n).1 (inl had)
    | inr w ↦ elim (cases_eq w.0 end) [
      | inl e ↦
          let P : ℕ → Type 0 = λ (k : ℕ). slice_get column k ≡ Some w.1 in
          let is : w.1 ≡ x = cc (subst P e w.4, at) in
          absurd (none (w.6, w.7, subst (λ (t : Support). IsOneOf t.rows w.6) is w.8))
      | inr ne ↦ let under = w.3 in (h n).1 (inr (w.0, w.1, w.2, omega (arith, under, ne), w.4, w.5, w.6, w.7, w.8))
    ]
  ]),
)

-- the number of one that has some is added, and the others of that number are passed
pub added_number : (column : List Support) (rows : List ℕ) (place : ℕ) (old numbers more : List (ℤ × ℤ)) (end new : ℕ) (x : Support) → place ≤ end → end < new → slice_get column end ≡ Some x
    → ((i : ℕ) × HasMember rows i × IsOneOf x.rows i) → ((n : ℤ) → IsInSet more n ↔ (IsInSet numbers n ⊎ (n ≡ x.number)))
    → ((j : ℕ) (t : Support) → slice_get column j ≡ Some t → end ≤ j → j < new → t.number ≡ x.number)
    → AreAddedTo column rows place old numbers end → AreAddedTo column rows place old more new
added_number column rows place old numbers more end new x from further at some is same h = λ n. (
  (λ has. elim ((is n).0 has) [
    | inl before ↦ elim ((h n).0 before) [ inl had ↦ inl had | inr w ↦ let under = w.3 in inr (w.0, w.1, w.2, omega (arith, under, further), w.4, w.5, w.6, w.7, w.8) ]
    | inr e ↦ inr (end, x, from, further, at, sym e, some.0, some.1, some.2)
  ]),
  (λ g. elim g [
    | inl had ↦ (is n).1 (inl ((h n).1 (inl had)))
    | inr w ↦ elim (cases_lt w.0 end) [
      | inl before ↦ (is n).1 (inl ((h n).1 (inr (w.0, w.1, w.2, before, w.4, w.5, w.6, w.7, w.8))))
      | inr after ↦ (is n).1 (inr (sym w.5 ∙ same w.0 w.1 w.4 after w.3))
    ]
  ]),
)

-- ---- the supports of the ranges that are left

-- the supports whose numbers are in the ranges that are left stand from this place on
pub record AreAhead (column : List Support) (place : ℕ) (ranges : List (ℤ × ℤ)) : Type 0 where
  pub rising : AreRanges ranges
  pub inside : place ≤ length column
  pub ahead : (k : ℕ) (s : Support) → slice_get column k ≡ Some s → IsInSet ranges s.number → place ≤ k

pub ahead_all : (column : List Support) (dom : List (ℤ × ℤ)) → AreRanges dom → AreAhead column 0 dom
ahead_all column dom rising = record { rising = rising; inside = omega arith; ahead = λ k s at is. omega arith }

pub ahead_more : (column : List Support) (place first end : ℕ) (ranges tail : List (ℤ × ℤ)) (r : ℤ × ℤ) → ranges ≡ r ∷ tail → IsFirst column place r.0 first → IsEnd column first r.1 end
    → AreAhead column place ranges → AreAhead column end tail
ahead_more column place first end ranges tail r is from to h =
    let rising : AreRanges (r ∷ tail) = rw is at h.rising in
    record {
      rising = AreRanges-tail r tail rising;
      inside = to.to;
      ahead = λ k s at later.
          let past = (rw is at h.ahead) k s at (inr later) in
          let up = lower_bound r tail s.number rising (inr later) in
          elim (cases_lt k end) [
            | inr beyond ↦ beyond
            | inl under ↦ elim (cases_lt k first) [
              | inl before ↦ let below = from.below k s past before at in absurd (omega (arith, ints, below, up))
              | inr after ↦
                  let gap = above_gap r tail s.number rising later in
                  let within = to.within k s after under at in
                  absurd (omega (arith, ints, gap, within))
            ]
          ];
    }

-- a support whose number is in the range stands between the two places, and none else
pub in_between : (column : List Support) (place first end : ℕ) (ranges tail : List (ℤ × ℤ)) (r : ℤ × ℤ) (k : ℕ) (s : Support) → ranges ≡ r ∷ tail → IsFirst column place r.0 first
    → IsEnd column first r.1 end → AreAhead column place ranges → slice_get column k ≡ Some s → IsInRange r s.number → (first ≤ k) × (k < end)
in_between column place first end ranges tail r k s is from to h at within =
    let past = (rw is at h.ahead) k s at (inl within) in
    let low = within.0 in
    let high = within.1 in (
      elim (cases_lt k first) [
        | inl before ↦ let below = from.below k s past before at in absurd (omega (arith, ints, below, low))
        | inr after ↦ after
      ],
      elim (cases_lt k end) [
        | inl under ↦ under
        | inr beyond ↦ let over = to.beyond k s beyond at in absurd (omega (arith, ints, over, high))
      ],
    )

between_in : (column : List Support) (place first end : ℕ) (r : ℤ × ℤ) (k : ℕ) (s : Support) → IsFirst column place r.0 first → IsEnd column first r.1 end → first ≤ k → k < end
    → slice_get column k ≡ Some s → IsInRange r s.number
between_in column place first end r k s from to after under at = (from.above k s after at, to.within k s after under at)

pub range_stands : (column : List Support) (place first end : ℕ) (ranges tail : List (ℤ × ℤ)) (r : ℤ × ℤ) (rows : List ℕ) → ranges ≡ r ∷ tail → IsFirst column place r.0 first
    → IsEnd column first r.1 end → AreAhead column place ranges → (n : ℤ) → StandsBetween column rows first end n ↔ (IsInRange r n × StandsIn column rows n)
range_stands column place first end ranges tail r rows is from to h n = (
  (λ w. (
    subst (λ (m : ℤ). IsInRange r m) w.5 (between_in column place first end r w.0 w.1 from to w.2 w.3 w.4),
    (w.6, (w.1, (w.0, w.4), w.5, w.8), w.7),
  )),
  (λ g.
      let has = g.1.1 in
      let s = has.0 in
      let k = has.1.0 in
      let within : IsInRange r s.number = subst (λ (m : ℤ). IsInRange r m) (sym has.2) g.0 in
      let between = in_between column place first end ranges tail r k s is from to h has.1.1 within in
      (k, s, between.0, between.1, has.1.1, has.2, g.1.0, g.1.2, has.3)),
)

pub range_joined : (column : List Support) (place first end : ℕ) (ranges tail : List (ℤ × ℤ)) (r : ℤ × ℤ) → ranges ≡ r ∷ tail → IsFirst column place r.0 first
    → IsEnd column first r.1 end → AreAhead column place ranges → (i : ℕ) → HasOneBetween column first end i ↔ IsLeftIn column (r ∷ []) i
range_joined column place first end ranges tail r is from to h i = (
  (λ w. (w.1.number, (w.1, (w.0, w.4), refl, w.5), inl (between_in column place first end r w.0 w.1 from to w.2 w.3 w.4))),
  (λ g.
      let has = g.1 in
      let s = has.0 in
      let k = has.1.0 in
      elim g.2 [
        | inl in_range ↦
            let within : IsInRange r s.number = subst (λ (m : ℤ). IsInRange r m) (sym has.2) in_range in
            let between = in_between column place first end ranges tail r k s is from to h has.1.1 within in
            (k, s, between.0, between.1, has.1.1, has.3)
        | inr none ↦ absurd none
      ]),
)

-- rows that are put into a set are those of the range
pub joined_range : (column : List Support) (old new : List ℕ) (r : ℤ × ℤ) (first end : ℕ) → ((i : ℕ) → HasMember new i ↔ (HasMember old i ⊎ HasOneBetween column first end i))
    → ((i : ℕ) → HasOneBetween column first end i ↔ IsLeftIn column (r ∷ []) i) → (i : ℕ) → HasMember new i ↔ (HasMember old i ⊎ IsLeftIn column (r ∷ []) i)
joined_range column old new r first end more same i = (
  (λ has. elim ((more i).0 has) [ inl had ↦ inl had | inr w ↦ inr ((same i).0 w) ]),
  (λ g. elim g [ inl had ↦ (more i).1 (inl had) | inr w ↦ (more i).1 (inr ((same i).1 w)) ]),
)

-- numbers that are added are those of the range
pub added_range : (column : List Support) (rows : List ℕ) (old new : List (ℤ × ℤ)) (r : ℤ × ℤ) (first end : ℕ) → ((n : ℤ) → IsInSet new n ↔ (IsInSet old n ⊎ StandsBetween column rows first end n))
    → ((n : ℤ) → StandsBetween column rows first end n ↔ (IsInRange r n × StandsIn column rows n)) → (n : ℤ) → IsInSet new n ↔ (IsInSet old n ⊎ (IsInRange r n × StandsIn column rows n))
added_range column rows old new r first end more same n = (
  (λ has. elim ((more n).0 has) [ inl had ↦ inl had | inr w ↦ inr ((same n).0 w) ]),
  (λ g. elim g [ inl had ↦ (more n).1 (inl had) | inr w ↦ (more n).1 (inr ((same n).1 w)) ]),
)
