-- The words of each number of a column.
use Rattle.std.proofs.Common.{◌≡◌, ℕ, ◌+◌, ◌-◌, ◌/◌, ◌%◌, ◌<◌, ◌≤◌, List, [], ◌∷◌, ◌++◌, ◌⊎◌, inl, inr, refl, sym, ap, subst, ◌∙◌, arith, length, take, drop, get_or}
use Rattle.std.specs.Prelude.{ℤ, pos, ◌≤ℤ◌, ◌<ℤ◌, ◌+ℤ◌, slice_get, slice_range, Some, ◌↔◌}
use Rattle.std.proofs.lemmas.Bool.{cases_eq, cases_lt}
use Rattle.std.proofs.lemmas.Bool.Decides.{leb_tells}
use Rattle.std.proofs.lemmas.Int.{ints}
use Rattle.std.proofs.lemmas.List.{length-append, length-drop, drop-append-le, take-append-le, drop_at, take_all, get_or_past}
use Rattle.std.proofs.lemmas.Option.{slice_get_within}
use Rattle.fz_sets.proofs.Numbers.{same_or_not}
use Rattle.fz_bits.specs.Words.{HasBit}
use Rattle.fz_bits.specs.Members.{HasMember, IsOneOf}
use Rattle.fz_bits.proofs.Members.{none_in}
use Rattle.fz_column.specs.declared.supports.Support.{Support}
use Rattle.fz_column.specs.declared.packed.Packed.{Packed}
use Rattle.fz_column.specs.declared.packed.Numbered.{Numbered}
use Rattle.fz_column.specs.Supports.{AreInOrder, AreSized, HasNumber, IsEnd, HasOneBetween, StandsIn}
use Rattle.fz_column.specs.Packed.{words_of, HasRow, IsWhole, ArePacked}
use Rattle.fz_column.proofs.Slices.{get_last, get_before, get_more}

-- ---- a word of a set

-- what is one of a word's is in the set
pub word_has : (words : List ℕ) (place bits i : ℕ) → bits ≡ get_or words place 0 → IsOneOf (record { word = place; bits = bits }) i → HasMember words i
word_has words place bits i is here = subst (λ (k : ℕ). HasBit (get_or words k 0) (i % 64)) here.0 (subst (λ (w : ℕ). HasBit w (i % 64)) is here.1)

pub has_word : (words : List ℕ) (place bits i : ℕ) → bits ≡ get_or words place 0 → i / 64 ≡ place → HasMember words i → IsOneOf (record { word = place; bits = bits }) i
has_word words place bits i is e has = (sym e, subst (λ (w : ℕ). HasBit w (i % 64)) (sym is) (subst (λ (k : ℕ). HasBit (get_or words k 0) (i % 64)) e has))

-- a number of a set is in one of its words
pub inside : (words : List ℕ) (i : ℕ) → HasMember words i → i / 64 < length words
inside words i has = elim (leb_tells (length words) (i / 64)) [ inl past ↦ absurd (none_in words i (get_or_past words (i / 64) 0 past.1) has) | inr under ↦ under.1 ]

-- ---- words that are put into a set

-- the words before a place are put in
pub record AreJoinedBelow (old words rows : List ℕ) (place : ℕ) : Type 0 where
  pub size : length rows ≡ length old
  pub members : (i : ℕ) → HasMember rows i ↔ (HasMember old i ⊎ ((i / 64 < place) × HasMember words i))

pub joined_none : (old words : List ℕ) → AreJoinedBelow old words old 0
joined_none old words = record {
  size = refl;
  members = λ i. ((λ has. inl has), (λ g. elim g [ inl has ↦ has | inr w ↦ let below = w.0 in absurd (omega (arith, below)) ]));
}

pub joined_word : (old words rows new : List ℕ) (place bits : ℕ) → bits ≡ get_or words place 0
    → ((i : ℕ) → HasMember new i ↔ (HasMember rows i ⊎ IsOneOf (record { word = place; bits = bits }) i)) → length new ≡ length rows
    → AreJoinedBelow old words rows place → AreJoinedBelow old words new (place + 1)
joined_word old words rows new place bits is more same h = record {
  size = same ∙ h.size;
  members = λ i. (
    (λ has. elim ((more i).0 has) [
      | inl before ↦ elim ((h.members i).0 before) [ inl had ↦ inl had | inr w ↦ let below = w.0 in inr (omega (arith, below), w.1) ]
      | inr here ↦ let at = here.0 in inr (omega (arith, at), word_has words place bits i is here)
    ]),
    (λ g. elim g [
      | inl had ↦ (more i).1 (inl ((h.members i).1 (inl had)))
      | inr w ↦ elim (cases_eq (i / 64) place) [
        | inl e ↦ (more i).1 (inr (has_word words place bits i is e w.1))
        | inr ne ↦ let below = w.0 in (more i).1 (inl ((h.members i).1 (inr (omega (arith, below, ne), w.1))))
      ]
    ]),
  );
}

pub joined_all : (old words rows : List ℕ) (place : ℕ) → length words ≤ place → AreJoinedBelow old words rows place
    → (i : ℕ) → HasMember rows i ↔ (HasMember old i ⊎ HasMember words i)
joined_all old words rows place end h i = (
  (λ has. elim ((h.members i).0 has) [ inl had ↦ inl had | inr w ↦ inr w.1 ]),
  (λ g. (h.members i).1 (elim g [ inl had ↦ inl had | inr has ↦ let under = inside words i has in inr (omega (arith, under, end), has) ])),
)

-- ---- words that have none of a set

-- the words before a place have none
abbrev pub AreMissed : List ℕ → List ℕ → ℕ → Type 0
AreMissed rows words place = (i : ℕ) → i / 64 < place → HasMember rows i → HasMember words i → ⊥

pub missed_word : (rows words : List ℕ) (place bits : ℕ) → bits ≡ get_or words place 0 → (((i : ℕ) × HasMember rows i × IsOneOf (record { word = place; bits = bits }) i) → ⊥)
    → AreMissed rows words place → AreMissed rows words (place + 1)
missed_word rows words place bits is none h i below has one = elim (cases_eq (i / 64) place) [
  | inl e ↦ none (i, has, has_word words place bits i is e one)
  | inr ne ↦ h i (omega (arith, below, ne)) has one
]

pub missed_all : (rows words : List ℕ) (place : ℕ) → length words ≤ place → AreMissed rows words place → ((i : ℕ) × HasMember rows i × HasMember words i) → ⊥
missed_all rows words place end h w = let under = inside words w.0 w.2 in h w.0 (omega (arith, under, end)) w.1 w.2

-- ---- a number more

part_before : (xs ys : List ℕ) (s n : ℕ) → s + n ≤ length xs → slice_range (xs ++ ys) s (s + n) ≡ slice_range xs s (s + n)
part_before xs ys s n inside =
    let dropped : drop s (xs ++ ys) ≡ drop s xs ++ ys = drop-append-le s xs ys (omega (arith, inside)) in
    let size = length-drop s xs in
    ap (take (s + n - s)) dropped ∙ take-append-le (s + n - s) (drop s xs) ys (omega (arith, inside, size))

part_behind : (xs ys : List ℕ) (s n : ℕ) → length xs ≡ s → length ys ≡ n → slice_range (xs ++ ys) s (s + n) ≡ ys
part_behind xs ys s n first size = ap (take (s + n - s)) (drop_at xs ys s first) ∙ take_all (s + n - s) ys (omega (arith, size))

-- a number more, whose words stand after the others
pub record IsPushed (old new : Packed) (x : Numbered) (rows : List ℕ) : Type 0 where
  pub numbers : new.numbers.items ≡ old.numbers.items ++ x ∷ []
  pub words : new.words.items ≡ old.words.items ++ rows
  pub width : new.width ≡ old.width
  pub first : x.first ≡ length old.words.items
  pub size : length rows ≡ old.width

pushed_at : (old new : Packed) (x : Numbered) (rows : List ℕ) → IsPushed old new x rows → (k : ℕ) (y : Numbered) → slice_get new.numbers.items k ≡ Some y
    → (slice_get old.numbers.items k ≡ Some y) ⊎ (y ≡ x)
pushed_at old new x rows p k y at = get_more old.numbers.items x k y (ap (λ (xs : List Numbered). slice_get xs k) (sym p.numbers) ∙ at)

pub pushed_whole : (old new : Packed) (x : Numbered) (rows : List ℕ) → IsPushed old new x rows → IsWhole old → IsWhole new
pushed_whole old new x rows p whole k y at =
    let longer : length new.words.items ≡ length old.words.items + length rows = ap length p.words ∙ length-append old.words.items rows in
    let size = p.size in
    let width = p.width in
    elim (pushed_at old new x rows p k y at) [
      | inl before ↦ let inside = whole k y before in omega (arith, inside, longer, width)
      | inr is ↦ let first : y.first ≡ length old.words.items = ap (λ (z : Numbered). z.first) is ∙ p.first in omega (arith, first, longer, width, size)
    ]

words_before : (old new : Packed) (x : Numbered) (rows : List ℕ) → IsPushed old new x rows → (y : Numbered) → y.first + old.width ≤ length old.words.items → words_of new y ≡ words_of old y
words_before old new x rows p y inside =
    ap (λ (w : ℕ). slice_range new.words.items y.first (y.first + w)) p.width ∙ ap (λ (ws : List ℕ). slice_range ws y.first (y.first + old.width)) p.words
    ∙ part_before old.words.items rows y.first old.width inside

words_behind : (old new : Packed) (x : Numbered) (rows : List ℕ) → IsPushed old new x rows → words_of new x ≡ rows
words_behind old new x rows p =
    ap (λ (w : ℕ). slice_range new.words.items x.first (x.first + w)) p.width ∙ ap (λ (ws : List ℕ). slice_range ws x.first (x.first + old.width)) p.words
    ∙ part_behind old.words.items rows x.first old.width (sym p.first) p.size

pub pushed_rows : (old new : Packed) (x : Numbered) (rows : List ℕ) → IsPushed old new x rows → IsWhole old
    → (n : ℤ) (i : ℕ) → HasRow new n i ↔ (HasRow old n i ⊎ ((n ≡ x.number) × HasMember rows i))
pushed_rows old new x rows p whole n i = (
  (λ h. elim (pushed_at old new x rows p h.0 h.1 h.2) [
    | inl before ↦ inl (h.0, h.1, before, h.3, subst (λ (ws : List ℕ). HasMember ws i) (words_before old new x rows p h.1 (whole h.0 h.1 before)) h.4)
    | inr is ↦
        let mine : HasMember (words_of new x) i = subst (λ (y : Numbered). HasMember (words_of new y) i) is h.4 in
        inr (sym h.3 ∙ ap (λ (y : Numbered). y.number) is, subst (λ (ws : List ℕ). HasMember ws i) (words_behind old new x rows p) mine)
  ]),
  (λ g. elim g [
    | inl h ↦ (
      h.0,
      h.1,
      ap (λ (xs : List Numbered). slice_get xs h.0) p.numbers ∙ get_before old.numbers.items (x ∷ []) h.0 h.1 h.2,
      h.3,
      subst (λ (ws : List ℕ). HasMember ws i) (sym (words_before old new x rows p h.1 (whole h.0 h.1 h.2))) h.4,
    )
    | inr h ↦ (
      length old.numbers.items,
      x,
      ap (λ (xs : List Numbered). slice_get xs (length old.numbers.items)) p.numbers ∙ get_last old.numbers.items x,
      sym h.0,
      subst (λ (ws : List ℕ). HasMember ws i) (sym (words_behind old new x rows p)) h.1,
    )
  ]),
)

-- ---- the rows of a column, number by number

-- a support before a place has the number and the row
abbrev pub HasNumberBelow : List Support → ℕ → ℤ → ℕ → Type 0
HasNumberBelow column place n i = (k : ℕ) × (s : Support) × (k < place) × (slice_get column k ≡ Some s) × (s.number ≡ n) × IsOneOf s.rows i

-- the supports before a place are packed
abbrev pub ArePackedBelow : List Support → Packed → ℕ → Type 0
ArePackedBelow column packed place = (n : ℤ) (i : ℕ) → HasRow packed n i ↔ HasNumberBelow column place n i

pub packed_none : (column : List Support) (packed : Packed) → packed.numbers.items ≡ [] → ArePackedBelow column packed 0
packed_none column packed none n i = (
  (λ h. let below = slice_get_within packed.numbers.items h.0 h.1 h.2 in let size = ap length none in absurd (omega (arith, below, size))),
  (λ w. let below = w.2 in absurd (omega (arith, below))),
)

same_number : (column : List Support) (place end : ℕ) (x : Support) (k : ℕ) (s : Support) → AreInOrder column → slice_get column place ≡ Some x → IsEnd column place x.number end
    → place ≤ k → k < end → slice_get column k ≡ Some s → s.number ≡ x.number
same_number column place end x k s order at to after under at_s =
    let up = order place k x s after at at_s in
    let down = to.within k s after under at_s in
    omega (arith, ints, up, down)

-- the numbers from a place up to their end are the first one's
pub packed_more : (column : List Support) (old new : Packed) (place end : ℕ) (x : Support) (none rows : List ℕ) → AreInOrder column → slice_get column place ≡ Some x
    → IsEnd column place x.number end → ((i : ℕ) → HasMember none i → ⊥) → ((i : ℕ) → HasMember rows i ↔ (HasMember none i ⊎ HasOneBetween column place end i))
    → ((n : ℤ) (i : ℕ) → HasRow new n i ↔ (HasRow old n i ⊎ ((n ≡ x.number) × HasMember rows i))) → ArePackedBelow column old place → ArePackedBelow column new end
packed_more column old new place end x none rows order at to empty joined more h n i =
    let from = to.from in (
      (λ has. elim ((more n i).0 has) [
        | inl before ↦ let w = (h n i).0 before in let below = w.2 in (w.0, w.1, omega (arith, below, from), w.3, w.4, w.5)
        | inr here ↦ elim ((joined i).0 here.1) [
          | inl none_has ↦ absurd (empty i none_has)
          | inr w ↦ (w.0, w.1, w.3, w.4, same_number column place end x w.0 w.1 order at to w.2 w.3 w.4 ∙ sym here.0, w.5)
        ]
      ]),
      (λ w. (more n i).1 (elim (cases_lt w.0 place) [
        | inl before ↦ inl ((h n i).1 (w.0, w.1, before, w.3, w.4, w.5))
        | inr after ↦
            inr (sym w.4 ∙ same_number column place end x w.0 w.1 order at to after w.2 w.3, (joined i).1 (inr (w.0, w.1, after, w.2, w.3, w.5)))
      ])),
    )

pub packed_all : (column : List Support) (packed last : Packed) (place : ℕ) → length column ≤ place → last.numbers.items ≡ packed.numbers.items → last.words.items ≡ packed.words.items
    → last.width ≡ packed.width → IsWhole packed → ((size : ℕ) → AreSized column size → packed.width ≤ size) → ArePackedBelow column packed place → ArePacked column last
packed_all column packed last place end numbers words width whole least h = record {
  whole = rw (numbers, words, width) whole;
  width = rw width least;
  rows = λ n i. (
    (λ g. let w = (h n i).0 (rw (numbers, words, width) at g) in (w.1, (w.0, w.3), w.4, w.5)),
    (λ g. rw (numbers, words, width) ((h n i).1 (let inside = slice_get_within column g.1.0 g.0 g.1.1 in (g.1.0, g.0, omega (arith, inside, end), g.1.1, g.2, g.3)))),
  );
}

-- ---- the rows of the numbers with a property

-- the words before a place of a number with the property have the row
abbrev pub HasRowBelow : Packed → (ℤ → Type 0) → ℕ → ℕ → Type 0
HasRowBelow packed P place i = (k : ℕ) × (x : Numbered) × (k < place) × (slice_get packed.numbers.items k ≡ Some x) × P x.number × HasMember (words_of packed x) i

pub record AreRowsBelow (packed : Packed) (P : ℤ → Type 0) (old rows : List ℕ) (place : ℕ) : Type 0 where
  pub size : length rows ≡ length old
  pub rows_are : (i : ℕ) → HasMember rows i ↔ (HasMember old i ⊎ HasRowBelow packed P place i)

pub rows_none : (packed : Packed) (P : ℤ → Type 0) (old : List ℕ) → AreRowsBelow packed P old old 0
rows_none packed P old = record {
  size = refl;
  rows_are = λ i. ((λ has. inl has), (λ g. elim g [ inl has ↦ has | inr w ↦ let below = w.2 in absurd (omega (arith, below)) ]));
}

same_at : (packed : Packed) (k place : ℕ) (x y : Numbered) → k ≡ place → slice_get packed.numbers.items k ≡ Some x → slice_get packed.numbers.items place ≡ Some y → x ≡ y
same_at packed k place x y e at_k at = let is = subst (λ (j : ℕ). slice_get packed.numbers.items j ≡ Some x) e at_k in cc (is, at)

pub rows_joined : (packed : Packed) (P : ℤ → Type 0) (old rows new : List ℕ) (place : ℕ) (x : Numbered) → slice_get packed.numbers.items place ≡ Some x → P x.number
    → ((i : ℕ) → HasMember new i ↔ (HasMember rows i ⊎ HasMember (words_of packed x) i)) → length new ≡ length rows → AreRowsBelow packed P old rows place
    → AreRowsBelow packed P old new (place + 1)
rows_joined packed P old rows new place x at holds more same h = record {
  size = same ∙ h.size;
  rows_are = λ i. (
    (λ has. elim ((more i).0 has) [
      | inl before ↦ elim ((h.rows_are i).0 before) [ inl had ↦ inl had | inr w ↦ let below = w.2 in inr (w.0, w.1, omega (arith, below), w.3, w.4, w.5) ]
      | inr here ↦ inr (place, x, omega arith, at, holds, here)
    ]),
    (λ g. (more i).1 (elim g [
      | inl had ↦ inl ((h.rows_are i).1 (inl had))
      | inr w ↦ elim (cases_eq w.0 place) [
        | inl e ↦ inr (subst (λ (y : Numbered). HasMember (words_of packed y) i) (same_at packed w.0 place w.1 x e w.3 at) w.5)
        | inr ne ↦ let below = w.2 in inl ((h.rows_are i).1 (inr (w.0, w.1, omega (arith, below, ne), w.3, w.4, w.5)))
      ]
    ])),
  );
}

pub rows_passed : (packed : Packed) (P : ℤ → Type 0) (old rows : List ℕ) (place : ℕ) (x : Numbered) → slice_get packed.numbers.items place ≡ Some x → (P x.number → ⊥)
    → AreRowsBelow packed P old rows place → AreRowsBelow packed P old rows (place + 1)
rows_passed packed P old rows place x at not h = record {
  size = h.size;
  rows_are = λ i. (
    (λ has. elim ((h.rows_are i).0 has) [ inl had ↦ inl had | inr w ↦ let below = w.2 in inr (w.0, w.1, omega (arith, below), w.3, w.4, w.5) ]),
    (λ g. (h.rows_are i).1 (elim g [
      | inl had ↦ inl had
      | inr w ↦ elim (cases_eq w.0 place) [
        | inl e ↦ absurd (not (subst (λ (y : Numbered). P y.number) (same_at packed w.0 place w.1 x e w.3 at) w.4))
        | inr ne ↦ let below = w.2 in inr (w.0, w.1, omega (arith, below, ne), w.3, w.4, w.5)
      ]
    ])),
  );
}

pub rows_all : (packed : Packed) (P : ℤ → Type 0) (old rows : List ℕ) (place : ℕ) → length packed.numbers.items ≤ place → AreRowsBelow packed P old rows place
    → (i : ℕ) → HasMember rows i ↔ (HasMember old i ⊎ ((n : ℤ) × HasRow packed n i × P n))
rows_all packed P old rows place end h i = (
  (λ has. elim ((h.rows_are i).0 has) [ inl had ↦ inl had | inr w ↦ inr (w.1.number, (w.0, w.1, w.3, refl, w.5), w.4) ]),
  (λ g. (h.rows_are i).1 (elim g [
    | inl had ↦ inl had
    | inr w ↦
        let at = w.1.2 in
        let inside = slice_get_within packed.numbers.items w.1.0 w.1.1 at in
        inr (w.1.0, w.1.1, omega (arith, inside, end), at, subst P (sym w.1.3) w.2, w.1.4)
  ])),
)

-- ---- the numbers with a property that some rows have

-- some rows have a number before a place
abbrev pub StandsBelow : Packed → List ℕ → ℕ → ℤ → Type 0
StandsBelow packed rows place n =
    (k : ℕ) × (x : Numbered) × (k < place) × (slice_get packed.numbers.items k ≡ Some x) × (x.number ≡ n) × (i : ℕ) × HasMember rows i × HasMember (words_of packed x) i

-- the numbers with property P before a place that some rows have are those with property Q
abbrev pub AreNumbersBelow : Packed → List ℕ → (ℤ → Type 0) → (ℤ → Type 0) → ℕ → Type 0
AreNumbersBelow packed rows P Q place = (n : ℤ) → Q n ↔ (P n × StandsBelow packed rows place n)

pub numbers_none : (packed : Packed) (rows : List ℕ) (P Q : ℤ → Type 0) → ((n : ℤ) → Q n → ⊥) → AreNumbersBelow packed rows P Q 0
numbers_none packed rows P Q none n = ((λ is. absurd (none n is)), (λ w. let below = w.1.2 in absurd (omega (arith, below))))

pub numbers_more : (packed : Packed) (rows : List ℕ) (P Q R : ℤ → Type 0) (place : ℕ) (x : Numbered) → slice_get packed.numbers.items place ≡ Some x → P x.number
    → ((i : ℕ) × HasMember rows i × HasMember (words_of packed x) i) → ((n : ℤ) → R n ↔ (Q n ⊎ (n ≡ x.number)))
    → AreNumbersBelow packed rows P Q place → AreNumbersBelow packed rows P R (place + 1)
numbers_more packed rows P Q R place x at holds some more h n = (
  (λ is. elim ((more n).0 is) [
    | inl before ↦ let w = (h n).0 before in let below = w.1.2 in (w.0, (w.1.0, w.1.1, omega (arith, below), w.1.3, w.1.4, w.1.5, w.1.6, w.1.7))
    | inr e ↦ (subst P (sym e) holds, (place, x, omega arith, at, sym e, some.0, some.1, some.2))
  ]),
  (λ w. (more n).1 (elim (cases_eq w.1.0 place) [
    | inl e ↦ inr (sym w.1.4 ∙ ap (λ (y : Numbered). y.number) (same_at packed w.1.0 place w.1.1 x e w.1.3 at))
    | inr ne ↦ let below = w.1.2 in inl ((h n).1 (w.0, (w.1.0, w.1.1, omega (arith, below, ne), w.1.3, w.1.4, w.1.5, w.1.6, w.1.7)))
  ])),
)

pub numbers_passed : (packed : Packed) (rows : List ℕ) (P Q : ℤ → Type 0) (place : ℕ) (x : Numbered) → slice_get packed.numbers.items place ≡ Some x
    → (P x.number → ((i : ℕ) × HasMember rows i × HasMember (words_of packed x) i) → ⊥) → AreNumbersBelow packed rows P Q place → AreNumbersBelow packed rows P Q (place + 1)
numbers_passed packed rows P Q place x at none h n = (
  (λ is. let w = (h n).0 is in let below = w.1.2 in (w.0, (w.1.0, w.1.1, omega (arith, below), w.1.3, w.1.4, w.1.5, w.1.6, w.1.7))),
  (λ w. (h n).1 (elim (cases_eq w.1.0 place) [
    | inl e ↦
        let is : w.1.1 ≡ x = same_at packed w.1.0 place w.1.1 x e w.1.3 at in
        absurd (none (subst P (sym w.1.4 ∙ ap (λ (y : Numbered). y.number) is) w.0) (w.1.5, w.1.6, subst (λ (y : Numbered). HasMember (words_of packed y) w.1.5) is w.1.7))
    | inr ne ↦ let below = w.1.2 in (w.0, (w.1.0, w.1.1, omega (arith, below, ne), w.1.3, w.1.4, w.1.5, w.1.6, w.1.7))
  ])),
)

pub numbers_all : (packed : Packed) (rows : List ℕ) (P Q : ℤ → Type 0) (place : ℕ) → length packed.numbers.items ≤ place → AreNumbersBelow packed rows P Q place
    → (n : ℤ) → Q n ↔ (P n × (i : ℕ) × HasRow packed n i × HasMember rows i)
numbers_all packed rows P Q place end h n = (
  (λ is. let w = (h n).0 is in (w.0, w.1.5, (w.1.0, w.1.1, w.1.3, w.1.4, w.1.7), w.1.6)),
  (λ w. (h n).1 (let at = w.2.2 in let inside = slice_get_within packed.numbers.items w.2.0 w.2.1 at in (w.0, (w.2.0, w.2.1, omega (arith, inside, end), at, w.2.3, w.1, w.3, w.2.4)))),
)

-- ---- a column's rows and numbers

pub rows_of_column : (column : List Support) (packed : Packed) (P : ℤ → Type 0) (old rows : List ℕ) → ArePacked column packed
    → ((i : ℕ) → HasMember rows i ↔ (HasMember old i ⊎ ((n : ℤ) × HasRow packed n i × P n))) → (i : ℕ) → HasMember rows i ↔ (HasMember old i ⊎ ((n : ℤ) × HasNumber column n i × P n))
rows_of_column column packed P old rows are h i = (
  (λ has. elim ((h i).0 has) [ inl had ↦ inl had | inr w ↦ inr (w.0, (are.rows w.0 i).0 w.1, w.2) ]),
  (λ g. (h i).1 (elim g [ inl had ↦ inl had | inr w ↦ inr (w.0, (are.rows w.0 i).1 w.1, w.2) ])),
)

pub numbers_of_column : (column : List Support) (packed : Packed) (rows : List ℕ) (P Q : ℤ → Type 0) → ArePacked column packed
    → ((n : ℤ) → Q n ↔ (P n × (i : ℕ) × HasRow packed n i × HasMember rows i)) → (n : ℤ) → Q n ↔ (P n × StandsIn column rows n)
numbers_of_column column packed rows P Q are h n = (
  (λ is. let w = (h n).0 is in (w.0, (w.1, (are.rows n w.1).0 w.2, w.3))),
  (λ w. (h n).1 (w.0, w.1.0, (are.rows n w.1.0).1 w.1.1, w.1.2)),
)

-- ---- how many words the rows take

-- the words of the supports before a place
pub record IsWidthBelow (column : List Support) (width place : ℕ) : Type 0 where
  pub sized : (k : ℕ) (s : Support) → k < place → slice_get column k ≡ Some s → s.rows.word < width
  pub least : (size : ℕ) → AreSized column size → width ≤ size

pub width_none : (column : List Support) → IsWidthBelow column 0 0
width_none column = record { sized = λ k s below at. absurd (omega (arith, below)); least = λ size are. omega arith }

pub width_more : (column : List Support) (width place : ℕ) (x : Support) → slice_get column place ≡ Some x → width ≤ x.rows.word → IsWidthBelow column width place
    → IsWidthBelow column (x.rows.word + 1) (place + 1)
width_more column width place x at longer h = record {
  sized = λ k s below at_k. elim (cases_eq k place) [
    | inl e ↦ let is : s ≡ x = cc (subst (λ (j : ℕ). slice_get column j ≡ Some s) e at_k, at) in let same = ap (λ (t : Support). t.rows.word) is in omega (arith, same)
    | inr ne ↦ let short = h.sized k s (omega (arith, below, ne)) at_k in omega (arith, short, longer)
  ];
  least = λ size are. let inside = are x (place, at) in omega (arith, inside);
}

pub width_same : (column : List Support) (width place : ℕ) (x : Support) → slice_get column place ≡ Some x → x.rows.word < width → IsWidthBelow column width place
    → IsWidthBelow column width (place + 1)
width_same column width place x at short h = record {
  sized = λ k s below at_k. elim (cases_eq k place) [
    | inl e ↦ let is : s ≡ x = cc (subst (λ (j : ℕ). slice_get column j ≡ Some s) e at_k, at) in let same = ap (λ (t : Support). t.rows.word) is in omega (arith, same, short)
    | inr ne ↦ h.sized k s (omega (arith, below, ne)) at_k
  ];
  least = h.least;
}

pub width_all : (column : List Support) (width place : ℕ) → length column ≤ place → IsWidthBelow column width place → AreSized column width
width_all column width place end h s at = let inside = slice_get_within column at.0 s at.1 in h.sized at.0 s (omega (arith, inside, end)) at.1

-- ---- the start and the steps

pub whole_none : (packed : Packed) → packed.numbers.items ≡ [] → IsWhole packed
whole_none packed none k x at = let below = slice_get_within packed.numbers.items k x at in let size = ap length none in absurd (omega (arith, below, size))

-- the end of a number lies after its place
pub end_further : (column : List Support) (place end : ℕ) (x : Support) → slice_get column place ≡ Some x → IsEnd column place x.number end → place < end
end_further column place end x at to = elim (cases_lt place end) [ inl before ↦ before | inr past ↦ let above = to.beyond place x past at in absurd (omega (arith, ints, above)) ]

-- ---- numbers that follow one another

-- rows of a set have each number from a low one that is below the next
pub record AreMet (packed : Packed) (rows : List ℕ) (low high next : ℤ) : Type 0 where
  pub order : next ≤ℤ high
  pub met : (n : ℤ) → low ≤ℤ n → n <ℤ next → (i : ℕ) × HasRow packed n i × HasMember rows i

pub met_to : (packed : Packed) (rows : List ℕ) (low high next : ℤ) (place : ℕ) (x : Numbered) → slice_get packed.numbers.items place ≡ Some x → x.number ≡ next
    → ((i : ℕ) × HasMember rows i × HasMember (words_of packed x) i) → AreMet packed rows low high next
    → (n : ℤ) → low ≤ℤ n → n ≤ℤ next → (i : ℕ) × HasRow packed n i × HasMember rows i
met_to packed rows low high next place x at is some h n above below = elim (same_or_not n next) [
  | inl e ↦ (some.0, (place, x, at, is ∙ sym e, some.2), some.1)
  | inr ne ↦ h.met n above (omega (arith, ints, below, ne))
]

pub met_next : (packed : Packed) (rows : List ℕ) (low high next : ℤ) (place : ℕ) (x : Numbered) → slice_get packed.numbers.items place ≡ Some x → x.number ≡ next
    → ((i : ℕ) × HasMember rows i × HasMember (words_of packed x) i) → next <ℤ high → AreMet packed rows low high next → AreMet packed rows low high (next +ℤ pos 1)
met_next packed rows low high next place x at is some under h = record {
  order = omega (arith, ints, under);
  met = λ n above below. met_to packed rows low high next place x at is some h n above (omega (arith, ints, below));
}
