-- What a loop over the bits of a row adds, what it leaves, and whether it finds something.
use Rattle.std.proofs.Common.{◌≡◌, ℕ, ◌+◌, ◌<◌, ◌≤◌, ◌⊎◌, inl, inr, sym, subst, arith, false, Bool}
use Rattle.std.specs.Prelude.{◌↔◌, ◌||◌, IsTrue}
use Rattle.std.proofs.lemmas.Bool.{cases_eq, cases_lt, or_cases, or_left, or_right}
use Rattle.fz_regular.specs.BitRows.{IsNext}

-- below the one after it are those below and itself
pub below_next : (H : ℕ → Type 0) (from s b : ℕ) → IsNext H from s → b < s + 1 → H b → (b < from) ⊎ (b ≡ s)
below_next H from s b next less has = elim (cases_eq b s) [
  | inl e ↦ inr e
  | inr ne ↦ elim (cases_lt b from) [
    | inl below ↦ inl below
    | inr above ↦ absurd (next.first b above (omega (arith, less, ne)) has)
  ]
]

-- ---- what is added

-- of the numbers below one that have a property, each adds something
abbrev pub Gathered : (ℕ → Type 0) → ℕ → (ℕ → ℕ → ℕ → Type 0) → (ℕ → ℕ → Type 0) → (ℕ → ℕ → Type 0) → Type 0
Gathered H from Q old now = (i k : ℕ) → now i k ↔ (old i k ⊎ ((b : ℕ) × (b < from) × H b × Q b i k))

pub gathered_none : (H : ℕ → Type 0) (Q : ℕ → ℕ → ℕ → Type 0) (old : ℕ → ℕ → Type 0) → Gathered H 0 Q old old
gathered_none H Q old i k = ((λ h. inl h), (λ h. elim h [ inl was ↦ was | inr w ↦ (let below = w.1 in absurd (omega (arith, below))) ]))

pub gathered_more : (H : ℕ → Type 0) (Q : ℕ → ℕ → ℕ → Type 0) (old now new : ℕ → ℕ → Type 0) (from s : ℕ) → IsNext H from s → ((i k : ℕ) → new i k ↔ (now i k ⊎ Q s i k))
    → Gathered H from Q old now → Gathered H (s + 1) Q old new
gathered_more H Q old now new from s next more h i k = (
  (λ is. elim ((more i k).0 is) [
    | inl was ↦ elim ((h i k).0 was) [
      | inl first ↦ inl first
      | inr w ↦ (let below = w.1 in let least = next.at_least in inr (w.0, omega (arith, below, least), w.2, w.3))
    ]
    | inr one ↦ inr (s, omega arith, next.has, one)
  ]),
  (λ is. (more i k).1 (elim is [
    | inl first ↦ inl ((h i k).1 (inl first))
    | inr w ↦ elim (below_next H from s w.0 next w.1 w.2) [
      | inl below ↦ inl ((h i k).1 (inr (w.0, below, w.2, w.3)))
      | inr e ↦ inr (subst (λ (b : ℕ). Q b i k) e w.3)
    ]
  ])),
)

-- what the next one would add is there
pub gathered_had : (H P : ℕ → Type 0) (row from s : ℕ) (old now : ℕ → ℕ → Type 0) → IsNext H from s → now row s → Gathered H from (λ b i k. (i ≡ row) × (k ≡ b) × P b) old now
    → Gathered H (s + 1) (λ b i k. (i ≡ row) × (k ≡ b) × P b) old now
gathered_had H P row from s old now next has h =
    gathered_more H (λ b i k. (i ≡ row) × (k ≡ b) × P b) old now now from s next
    (λ i k. ((λ is. inl is), (λ is. elim is [ inl was ↦ was | inr one ↦ subst (λ (j : ℕ). now j k) (sym one.0) (subst (λ (b : ℕ). now row b) (sym one.1) has) ]))) h

-- one is added exactly if something holds
pub added_one : (P : Type 0) (row s : ℕ) (old new : ℕ → ℕ → Type 0) → P → ((i k : ℕ) → new i k ↔ (old i k ⊎ ((i ≡ row) × (k ≡ s)))) → (i k : ℕ) → new i k ↔ (old i k ⊎ ((i ≡ row) × (k ≡ s) × P))
added_one P row s old new is more i k = (
  (λ h. elim ((more i k).0 h) [ inl was ↦ inl was | inr one ↦ inr (one.0, one.1, is) ]),
  (λ h. (more i k).1 (elim h [ inl was ↦ inl was | inr one ↦ inr (one.0, one.1) ])),
)

pub added_none : (P : Type 0) (row s : ℕ) (old : ℕ → ℕ → Type 0) → (P → ⊥) → (i k : ℕ) → old i k ↔ (old i k ⊎ ((i ≡ row) × (k ≡ s) × P))
added_none P row s old none i k = ((λ h. inl h), (λ h. elim h [ inl was ↦ was | inr one ↦ absurd (none one.2) ]))

pub gathered_all : (H : ℕ → Type 0) (Q : ℕ → ℕ → ℕ → Type 0) (old now : ℕ → ℕ → Type 0) (from : ℕ) → ((j : ℕ) → from ≤ j → H j → ⊥)
    → Gathered H from Q old now → (i k : ℕ) → now i k ↔ (old i k ⊎ ((b : ℕ) × H b × Q b i k))
gathered_all H Q old now from none h i k = (
  (λ is. elim ((h i k).0 is) [ inl was ↦ inl was | inr w ↦ inr (w.0, w.2, w.3) ]),
  (λ is. (h i k).1 (elim is [
    | inl was ↦ inl was
    | inr w ↦ elim (cases_lt w.0 from) [
      | inl below ↦ inr (w.0, below, w.1, w.2)
      | inr above ↦ absurd (none w.0 above w.1)
    ]
  ])),
)

-- ---- what is left

-- of those below one in a row the ones are left that have a property
abbrev pub Filtered : ℕ → ℕ → (ℕ → Type 0) → (ℕ → ℕ → Type 0) → (ℕ → ℕ → Type 0) → Type 0
Filtered row from E old now = (i k : ℕ) → now i k ↔ (old i k × ((i ≡ row) → k < from → E k))

pub filtered_none : (row : ℕ) (E : ℕ → Type 0) (old : ℕ → ℕ → Type 0) → Filtered row 0 E old old
filtered_none row E old i k = ((λ h. (h, λ e below. absurd (omega (arith, below)))), (λ h. h.0))

-- those from one on are left
pub filtered_after : (row from : ℕ) (E : ℕ → Type 0) (old now : ℕ → ℕ → Type 0) → Filtered row from E old now → (k : ℕ) → from ≤ k → old row k → now row k
filtered_after row from E old now h k above was = (h row k).1 (was, λ e below. absurd (omega (arith, above, below)))

-- the next one is left if it has the property
pub filtered_next : (row from s : ℕ) (E : ℕ → Type 0) (old now new : ℕ → ℕ → Type 0) → IsNext (now row) from s → ((i k : ℕ) → new i k ↔ (now i k × ((i ≡ row) × (k ≡ s) → E s)))
    → Filtered row from E old now → Filtered row (s + 1) E old new
filtered_next row from s E old now new next less h i k = (
  (λ is.
      let w = (less i k).0 is in (
        ((h i k).0 w.0).0,
        λ e small. elim (below_next (now row) from s k next small (subst (λ (j : ℕ). now j k) e w.0)) [
          | inl below ↦ ((h i k).0 w.0).1 e below
          | inr here ↦ subst E (sym here) (w.1 (e, here))
        ],
      )),
  (λ w. (less i k).1 (
    (h i k).1 (w.0, λ e below. let least = next.at_least in w.1 e (omega (arith, below, least))),
    λ both. let here = both.1 in subst E here (w.1 both.0 (omega (arith, here))),
  )),
)

-- one is taken unless something holds
pub left_one : (P : Type 0) (row s : ℕ) (old : ℕ → ℕ → Type 0) → P → (i k : ℕ) → old i k ↔ (old i k × ((i ≡ row) × (k ≡ s) → P))
left_one P row s old is i k = ((λ h. (h, λ both. is)), (λ w. w.0))

pub taken_one : (P : Type 0) (row s : ℕ) (old new : ℕ → ℕ → Type 0) → (P → ⊥) → ((i k : ℕ) → new i k ↔ (old i k × ((i ≡ row) × (k ≡ s) → ⊥))) → (i k : ℕ) → new i k ↔ (old i k × ((i ≡ row) × (k ≡ s) → P))
taken_one P row s old new none less i k = (
  (λ h. let w = (less i k).0 h in (w.0, λ both. absurd (w.1 both))),
  (λ w. (less i k).1 (w.0, λ both. none (w.1 both))),
)

pub filtered_all : (row from : ℕ) (E : ℕ → Type 0) (old now : ℕ → ℕ → Type 0) → ((k : ℕ) → from ≤ k → now row k → ⊥) → Filtered row from E old now
    → (i k : ℕ) → now i k ↔ (old i k × ((i ≡ row) → E k))
filtered_all row from E old now none h i k = (
  (λ is. (
    ((h i k).0 is).0,
    λ e. elim (cases_lt k from) [
      | inl below ↦ ((h i k).0 is).1 e below
      | inr above ↦ absurd (none k above (subst (λ (j : ℕ). now j k) e is))
    ],
  )),
  (λ w. (h i k).1 (w.0, λ e below. w.1 e)),
)

-- ---- whether there is one

-- one of the numbers below one has a property
abbrev pub Found : (ℕ → Type 0) → ℕ → Bool → Type 0
Found H from some = IsTrue some ↔ ((k : ℕ) × (k < from) × H k)

pub found_none : (H : ℕ → Type 0) → Found H 0 false
found_none H = ((λ h. absurd (cc h)), (λ w. let below = w.1 in absurd (omega (arith, below))))

-- the next one has it too, or hasn't
pub found_next : (R G : ℕ → Type 0) (from s : ℕ) (some one : Bool) → IsNext R from s → (IsTrue one ↔ G s) → Found (λ k. R k × G k) from some → Found (λ k. R k × G k) (s + 1) (some || one)
found_next R G from s some one next is h = (
  (λ t. elim (or_cases some one t) [
    | inl before ↦ let w = h.0 before in let below = w.1 in let least = next.at_least in (w.0, omega (arith, below, least), w.2)
    | inr now ↦ (s, omega arith, (next.has, is.0 now))
  ]),
  (λ w. elim (below_next R from s w.0 next w.1 w.2.0) [
    | inl below ↦ or_left some one (h.1 (w.0, below, w.2))
    | inr e ↦ or_right some one (is.1 (subst G e w.2.1))
  ]),
)

-- one that is found stays so
pub found_still : (H : ℕ → Type 0) (from s : ℕ) (some : Bool) → from ≤ s → IsTrue some → Found H from some → Found H (s + 1) some
found_still H from s some least is h = ((λ t. let w = h.0 t in let below = w.1 in (w.0, omega (arith, below, least), w.2)), (λ w. is))

pub found_all : (H : ℕ → Type 0) (from : ℕ) (some : Bool) → ((j : ℕ) → from ≤ j → H j → ⊥) → Found H from some → IsTrue some ↔ ((k : ℕ) × H k)
found_all H from some none h = (
  (λ is. let w = h.0 is in (w.0, w.2)),
  (λ w. elim (cases_lt w.0 from) [
    | inl below ↦ h.1 (w.0, below, w.1)
    | inr above ↦ absurd (none w.0 above w.1)
  ]),
)
