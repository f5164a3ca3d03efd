-- Rows of a table line by line.
use Rattle.std.proofs.Common.{◌≡◌, ℕ, ◌<◌, ◌≤◌, ◌+◌, ◌*◌, ◌/◌, ◌%◌, ◌⊎◌, inl, inr, refl, sym, ap, subst, ◌∙◌, arith, List, [], get_or, set, length}
use Rattle.std.specs.Prelude.{◌↔◌}
use Rattle.std.specs.Int.{bit_at}
use Rattle.std.proofs.lemmas.Bool.{cases_eq}
use Rattle.std.proofs.lemmas.Bool.Decides.{leb_tells}
use Rattle.std.proofs.lemmas.List.{get_or-set_same, get_or-set_other, get_or_past, length-set}
use Rattle.fz_bits.specs.declared.chunk.Chunk.{Chunk}
use Rattle.fz_bits.specs.Words.{HasBit, AreOnes}
use Rattle.fz_bits.specs.Members.{HasMember, IsOneOf}
use Rattle.fz_bits.proofs.Members.{none_in}
use Rattle.fz_column.specs.declared.grid.Grid.{Grid}
use Rattle.fz_column.specs.Lines.{HasOneOf, HasOneIn}
use Rattle.fz_column.specs.Grids.{line_at, HasRow, IsWhole, HasRowOf, HasNumberOf}
use Rattle.fz_column.proofs.Lines.{no_bit}

-- ---- a line that is written over

-- a row of lines has the number at a place
abbrev pub HasRowIn : List (List ℕ) → ℕ → ℕ → Type 0
HasRowIn lines k i = HasBit (get_or (get_or lines (i / 64) []) k 0) (i % 64)

pub joined : (lines : List (List ℕ)) (chunk : Chunk) (place : ℕ) (old new : List ℕ) → chunk.word < length lines → old ≡ get_or lines chunk.word []
    → ((k : ℕ) → AreOnes (get_or new k 0) (λ r. HasBit (get_or old k 0) r ⊎ ((k ≡ place) × HasBit chunk.bits r)))
    → (k i : ℕ) → HasRowIn (set lines chunk.word new) k i ↔ (HasRowIn lines k i ⊎ ((k ≡ place) × IsOneOf chunk i))
joined lines chunk place old new inside is more k i = elim (cases_eq (i / 64) chunk.word) [
  | inl e ↦
      let now : get_or (set lines chunk.word new) (i / 64) [] ≡ new = ap (λ (w : ℕ). get_or (set lines chunk.word new) w []) e ∙ get_or-set_same lines chunk.word new [] inside in
      let was : get_or lines (i / 64) [] ≡ old = ap (λ (w : ℕ). get_or lines w []) e ∙ sym is in
      let bit = more k (i % 64) (omega arith) in
      rw (now, was) (
        (λ h. elim (bit.0 h) [ inl before ↦ inl before | inr one ↦ inr (one.0, (sym e, one.1)) ]),
        (λ g. bit.1 (elim g [ inl before ↦ inl before | inr one ↦ inr (one.0, one.1.1) ])),
      )
  | inr ne ↦ rw (get_or-set_other lines chunk.word (i / 64) new [] ne) ((λ h. inl h), (λ g. elim g [ inl before ↦ before | inr one ↦ absurd (ne (sym one.1.0)) ]))
]

pub same : (lines : List (List ℕ)) (word : ℕ) (old new : List ℕ) → word < length lines → old ≡ get_or lines word [] → new ≡ old
    → (k i : ℕ) → HasRowIn (set lines word new) k i → HasRowIn lines k i
same lines word old new inside is kept k i h = elim (cases_eq (i / 64) word) [
  | inl e ↦
      let now : get_or (set lines word new) (i / 64) [] ≡ new = ap (λ (w : ℕ). get_or (set lines word new) w []) e ∙ get_or-set_same lines word new [] inside in
      let was : get_or lines (i / 64) [] ≡ old = ap (λ (w : ℕ). get_or lines w []) e ∙ sym is in
      subst (λ (l : List ℕ). HasBit (get_or l k 0) (i % 64)) (now ∙ kept ∙ sym was) h
  | inr ne ↦ rw (get_or-set_other lines word (i / 64) new [] ne) at h
]

-- rows have a number more, which is one of all
pub whole_more : (old : Grid) (all place : ℕ) (New : ℕ → ℕ → Type 0) → place < 64 → IsWhole old → AreOnes all (λ k. HasBit old.all k ⊎ (k ≡ place))
    → ((k i : ℕ) → New k i → HasRow old k i ⊎ (k ≡ place)) → (k i : ℕ) → New k i → (k < 64) × HasBit all k
whole_more old all place New small whole ones rows k i h = elim (rows k i h) [
  | inl before ↦ let w = whole k i before in (w.0, (ones k w.0).1 (inl w.1))
  | inr e ↦ let under : k < 64 = omega (arith, e, small) in (under, (ones k under).1 (inr e))
]

-- ---- the rows that are kept, line by line

-- the rows of the lines so far are those that have one of some numbers
pub record AreKeptBelow (grid : Grid) (numbers : ℕ) (old rows : List ℕ) (line : ℕ) : Type 0 where
  pub size : length rows ≡ length old
  pub members : (i : ℕ) → HasMember rows i ↔ (HasMember old i × (i / 64 < line → HasRowOf grid numbers i))

pub kept_none : (grid : Grid) (numbers : ℕ) (old : List ℕ) → AreKeptBelow grid numbers old old 0
kept_none grid numbers old = record {
  size = refl;
  members = λ i. ((λ h. (h, λ below. absurd (omega (arith, below)))), (λ h. h.0));
}

-- a line of which no row is left
pub kept_passed : (grid : Grid) (numbers : ℕ) (old rows : List ℕ) (line : ℕ) → get_or rows line 0 ≡ 0 → AreKeptBelow grid numbers old rows line → AreKeptBelow grid numbers old rows (line + 1)
kept_passed grid numbers old rows line none h = record {
  size = h.size;
  members = λ i. (
    (λ has.
        let w = (h.members i).0 has in (
          w.0,
          λ below. elim (cases_eq (i / 64) line) [
            | inl e ↦ absurd (none_in rows i (ap (λ (k : ℕ). get_or rows k 0) e ∙ none) has)
            | inr ne ↦ w.1 (omega (arith, below, ne))
          ],
        )),
    (λ w. (h.members i).1 (w.0, λ below. w.1 (omega (arith, below)))),
  );
}

-- a row of a line has one of some numbers
row_of : (grid : Grid) (numbers line i : ℕ) → i / 64 ≡ line → HasOneOf (line_at grid line) numbers (i % 64) → HasRowOf grid numbers i
row_of grid numbers line i e h = (h.0, h.2, subst (λ (w : ℕ). HasBit (get_or (line_at grid w) h.0 0) (i % 64)) (sym e) h.3)

in_row : (grid : Grid) (numbers line i : ℕ) → IsWhole grid → i / 64 ≡ line → HasRowOf grid numbers i → HasOneOf (line_at grid line) numbers (i % 64)
in_row grid numbers line i whole e h = (h.0, (whole h.0 i h.2).0, h.1, subst (λ (w : ℕ). HasBit (get_or (line_at grid w) h.0 0) (i % 64)) e h.2)

pub kept_more : (grid : Grid) (numbers : ℕ) (old rows : List ℕ) (line word these new : ℕ) → IsWhole grid → line < length rows → word ≡ get_or rows line 0
    → AreOnes these (HasOneOf (line_at grid line) numbers) → AreOnes new (λ r. HasBit word r × HasBit these r)
    → AreKeptBelow grid numbers old rows line → AreKeptBelow grid numbers old (set rows line new) (line + 1)
kept_more grid numbers old rows line word these new whole inside is ones both h = record {
  size = length-set rows line new ∙ h.size;
  members = λ i. elim (cases_eq (i / 64) line) [
    | inl e ↦
        let now : get_or (set rows line new) (i / 64) 0 ≡ new = ap (λ (w : ℕ). get_or (set rows line new) w 0) e ∙ get_or-set_same rows line new 0 inside in
        let was : get_or rows (i / 64) 0 ≡ word = ap (λ (w : ℕ). get_or rows w 0) e ∙ sym is in
        let small : i % 64 < 64 = omega arith in (
          (λ has.
              let w = (both (i % 64) small).0 (subst (λ (x : ℕ). HasBit x (i % 64)) now has) in
              let before = (h.members i).0 (subst (λ (x : ℕ). HasBit x (i % 64)) (sym was) w.0) in
              (before.0, λ below. row_of grid numbers line i e ((ones (i % 64) small).0 w.1))),
          (λ w.
              let before = (h.members i).1 (w.0, λ below. absurd (omega (arith, below, e))) in
              let here : HasBit word (i % 64) = subst (λ (x : ℕ). HasBit x (i % 64)) was before in
              let one = (ones (i % 64) small).1 (in_row grid numbers line i whole e (w.1 (omega (arith, e)))) in
              subst (λ (x : ℕ). HasBit x (i % 64)) (sym now) ((both (i % 64) small).1 (here, one))),
        )
    | inr ne ↦
        let other = get_or-set_other rows line (i / 64) new 0 ne in (
          (λ has.
              let w = (h.members i).0 (subst (λ (x : ℕ). HasBit x (i % 64)) other has) in
              (w.0, λ below. w.1 (omega (arith, below, ne)))),
          (λ w. subst (λ (x : ℕ). HasBit x (i % 64)) (sym other) ((h.members i).1 (w.0, λ below. w.1 (omega (arith, below))))),
        )
  ];
}

pub kept_all : (grid : Grid) (numbers : ℕ) (old rows : List ℕ) (line : ℕ) → length rows ≤ line → AreKeptBelow grid numbers old rows line
    → (i : ℕ) → HasMember rows i ↔ (HasMember old i × HasRowOf grid numbers i)
kept_all grid numbers old rows line end h i = (
  (λ has. elim (leb_tells (length rows) (i / 64)) [
    | inl past ↦ absurd (none_in rows i (get_or_past rows (i / 64) 0 past.1) has)
    | inr under ↦ let w = (h.members i).0 has in let below = under.1 in (w.0, w.1 (omega (arith, below, end)))
  ]),
  (λ w. (h.members i).1 (w.0, λ below. w.1)),
)

-- where all numbers are among them, every row has one
pub kept_every : (grid : Grid) (numbers both : ℕ) (rows : List ℕ) → IsWhole grid → ((i : ℕ) → HasMember rows i → (k : ℕ) × HasRow grid k i)
    → AreOnes both (λ k. HasBit grid.all k × HasBit numbers k) → both ≡ grid.all → (i : ℕ) → HasMember rows i ↔ (HasMember rows i × HasRowOf grid numbers i)
kept_every grid numbers both rows whole each ones all i = (
  (λ has.
      let w = each i has in
      let at = whole w.0 i w.1 in
      (has, (w.0, ((ones w.0 at.0).0 (subst (λ (x : ℕ). HasBit x w.0) (sym all) at.1)).1, w.1))),
  (λ h. h.0),
)

-- ---- the numbers that rows have, line by line

-- a row of the lines so far has a number
abbrev pub HasNumberBelow : Grid → List ℕ → ℕ → ℕ → Type 0
HasNumberBelow grid rows line k = (i : ℕ) × (i / 64 < line) × HasMember rows i × HasRow grid k i

abbrev pub AreFoundBelow : Grid → ℕ → List ℕ → ℕ → ℕ → Type 0
AreFoundBelow grid numbers rows line found = AreOnes found (λ k. HasBit numbers k × HasNumberBelow grid rows line k)

pub found_none : (grid : Grid) (numbers : ℕ) (rows : List ℕ) → AreFoundBelow grid numbers rows 0 0
found_none grid numbers rows k small = ((λ h. absurd (no_bit k h)), (λ w. absurd (let below = w.1.1 in omega (arith, below))))

pub found_passed : (grid : Grid) (numbers : ℕ) (rows : List ℕ) (line found : ℕ) → get_or rows line 0 ≡ 0 → AreFoundBelow grid numbers rows line found → AreFoundBelow grid numbers rows (line + 1) found
found_passed grid numbers rows line found none h k small = (
  (λ has. let w = (h k small).0 has in let below = w.1.1 in (w.0, (w.1.0, omega (arith, below), w.1.2, w.1.3))),
  (λ w. (h k small).1 (elim (cases_eq (w.1.0 / 64) line) [
    | inl e ↦ absurd (none_in rows w.1.0 (ap (λ (x : ℕ). get_or rows x 0) e ∙ none) w.1.2)
    | inr ne ↦ let below = w.1.1 in (w.0, (w.1.0, omega (arith, below, ne), w.1.2, w.1.3))
  ])),
)

pub found_more : (grid : Grid) (numbers : ℕ) (rows : List ℕ) (line word missing these found new : ℕ) → word ≡ get_or rows line 0
    → AreOnes missing (λ k. HasBit numbers k × (HasBit found k → ⊥)) → AreOnes these (λ k. HasBit missing k × HasOneIn (line_at grid line) word k)
    → AreOnes new (λ k. HasBit found k ⊎ HasBit these k) → AreFoundBelow grid numbers rows line found → AreFoundBelow grid numbers rows (line + 1) new
found_more grid numbers rows line word missing these found new is left ones either h k small = (
  (λ has. elim ((either k small).0 has) [
    | inl before ↦ let w = (h k small).0 before in let below = w.1.1 in (w.0, (w.1.0, omega (arith, below), w.1.2, w.1.3))
    | inr one ↦
        let w = (ones k small).0 one in
        let r = w.1.0 in
        let under = w.1.1 in
        let i = line * 64 + r in
        let e : i / 64 ≡ line = omega (arith, under) in
        let f : i % 64 ≡ r = omega (arith, under) in
        let mine : HasBit (get_or rows line 0) r = subst (λ (x : ℕ). HasBit x r) is w.1.2 in
        let member : HasMember rows i = rw (e, f) mine in
        let row : HasRow grid k i = rw (e, f) w.1.3 in
        (((left k small).0 w.0).0, (i, omega (arith, e), member, row))
  ]),
  (λ w. (either k small).1 (elim (cases_eq (w.1.0 / 64) line) [
    | inl e ↦
        let i = w.1.0 in
        let mine : HasBit word (i % 64) = subst (λ (x : ℕ). HasBit x (i % 64)) (sym is) (subst (λ (x : ℕ). HasBit (get_or rows x 0) (i % 64)) e w.1.2) in
        let row : HasBit (get_or (line_at grid line) k 0) (i % 64) = subst (λ (x : ℕ). HasBit (get_or (line_at grid x) k 0) (i % 64)) e w.1.3 in
        elim (cases_eq (bit_at found k) 1) [
          | inl had ↦ inl had
          | inr lacks ↦ inr ((ones k small).1 ((left k small).1 (w.0, lacks), (i % 64, omega arith, mine, row)))
        ]
    | inr ne ↦ let below = w.1.1 in inl ((h k small).1 (w.0, (w.1.0, omega (arith, below, ne), w.1.2, w.1.3)))
  ])),
)

pub found_all : (grid : Grid) (numbers : ℕ) (rows : List ℕ) (line found : ℕ) → length rows ≤ line → AreFoundBelow grid numbers rows line found
    → AreOnes found (λ k. HasBit numbers k × HasNumberOf grid rows k)
found_all grid numbers rows line found end h k small = (
  (λ has. let w = (h k small).0 has in (w.0, (w.1.0, w.1.2, w.1.3))),
  (λ w. (h k small).1 (
    w.0,
    (
      w.1.0,
      elim (leb_tells (length rows) (w.1.0 / 64)) [
        | inl past ↦ absurd (none_in rows w.1.0 (get_or_past rows (w.1.0 / 64) 0 past.1) w.1.1)
        | inr under ↦ let below = under.1 in omega (arith, below, end)
      ],
      w.1.1,
      w.1.2,
    ),
  )),
)

-- where all numbers are found, no further line is asked
pub found_every : (grid : Grid) (numbers : ℕ) (rows : List ℕ) (line found : ℕ) → found ≡ numbers → AreFoundBelow grid numbers rows line found
    → AreOnes found (λ k. HasBit numbers k × HasNumberOf grid rows k)
found_every grid numbers rows line found all h k small = (
  (λ has. let w = (h k small).0 has in (w.0, (w.1.0, w.1.2, w.1.3))),
  (λ w. subst (λ (x : ℕ). HasBit x k) (sym all) w.0),
)
