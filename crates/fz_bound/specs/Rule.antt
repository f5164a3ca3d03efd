-- The rule of the word.
use Rattle.std.specs.Prelude.{◌≡◌, ℕ, ◌≤◌, ◌+◌, ◌-◌, min, List, [], ◌∷◌}
use Rattle.fz_bound.specs.declared.known.Known.{Known}
use Rattle.atomic_table.specs.Table.{State}
use mathlib.Core.Option.{some}
use lib.ListN.{get_elem?}

-- where nothing was put; all parts
abbrev pub UNSET : ℕ
UNSET = 4294967296

abbrev pub PARTS : ℕ
PARTS = 65

abbrev pub known : ℕ → ℕ → ℕ → Known
known least seen parts = record { least = least; seen = seen; parts = parts }

-- the least of 2^32 and what each put
abbrev pub least_of : List Known → ℕ
least_of [] = UNSET
least_of (v ∷ vs) = min v.least (least_of vs)

abbrev pub parts_of : List Known → ℕ
parts_of [] = 0
parts_of (v ∷ vs) = v.parts + parts_of vs

-- a seat without parts has put nothing
abbrev pub IsIdle : Known → Type 0
IsIdle v = v.parts ≡ 0 → v ≡ known UNSET UNSET 0

pub record IsBound (s : State (Unit {0}) Known) : Type 0 where
  pub words : s.words ≡ least_of s.views ∷ []
  pub seen : (i : ℕ) (v : Known) → get_elem? s.views i ≡ some v → least_of s.views ≤ v.seen
  pub parts : parts_of s.views ≡ PARTS
  pub idle : (i : ℕ) (v : Known) → get_elem? s.views i ≡ some v → IsIdle v

-- ---- the views that the steps make

abbrev pub first : Known
first = known UNSET UNSET PARTS

abbrev pub loaded : Known → ℕ → Known
loaded v n = known v.least n v.parts

abbrev pub is_put : Known → ℕ → ℕ → Known
is_put v n k = known (min v.least k) n v.parts

abbrev pub left : Known → Known
left v = known v.least v.seen (v.parts - 1)

abbrev pub right : Known → Known
right v = known UNSET v.seen 1

abbrev pub both : Known → Known → Known
both v w = known (min v.least w.least) (min v.seen w.seen) (v.parts + w.parts)

abbrev pub spent : Known
spent = known UNSET UNSET 0
