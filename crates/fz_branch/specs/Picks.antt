-- Which variable is picked, among those with more than one value left.
use Rattle.std.specs.Prelude.{◌≡◌, ℕ, ◌<◌, ℤ, pos, neg_ℤ, ◌≤ℤ◌, ◌<ℤ◌, true, false, List, [], length, slice_index, slice_index_or}
use Rattle.fz_sets.specs.Sets.{set_size}
use Rattle.fz_spec.specs.declared.search.Pick.{Pick}
use Rattle.fz_spec.specs.declared.search.Pick.TheVariants.{InputOrder, FirstFail, AntiFirstFail, Smallest, Largest}
use Rattle.fz_dom.specs.Shape.{least, greatest}
use Rattle.fz_branch.specs.Values.{is_open}

-- a domain for each variable; a variable that has none has nothing left
abbrev pub domain_at : List (List (ℤ × ℤ)) → ℕ → List (ℤ × ℤ)
domain_at ds v = slice_index_or ds v []

-- The variable of the least rank is picked.
abbrev pub rank : Pick → List (ℤ × ℤ) → ℤ
rank InputOrder d = pos 0
rank FirstFail d = pos (set_size d)
rank AntiFirstFail d = neg_ℤ (pos (set_size d))
rank Smallest d = least d
rank Largest d = neg_ℤ (greatest d)

-- the domain of the variable at a place of a part
abbrev pub domain_of : List (List (ℤ × ℤ)) → List ℕ → ℕ → List (ℤ × ℤ)
domain_of ds vs k = domain_at ds (slice_index vs k)

-- no variable of the part has more than one value left
abbrev pub IsDone : List (List (ℤ × ℤ)) → List ℕ → Type 0
IsDone ds vs = (k : ℕ) → k < length vs → is_open (domain_of ds vs k) ≡ false

-- none of the variables at the places before this one has more than one value left
abbrev pub IsPassed : ℕ → List (List (ℤ × ℤ)) → List ℕ → Type 0
IsPassed n ds vs = (k : ℕ) → k < n → is_open (domain_of ds vs k) ≡ false

-- no variable before this one has more than one value left
abbrev pub AreClosed : ℕ → List (List (ℤ × ℤ)) → Type 0
AreClosed n ds = (v : ℕ) → v < n → is_open (domain_at ds v) ≡ false

-- Of the variables with more than one value left the one at this place has the least rank, and is the first such in the part.
pub record IsPicked (pick : Pick) (ds : List (List (ℤ × ℤ))) (vs : List ℕ) (place : ℕ) : Type 0 where
  pub within : place < length vs
  pub several : is_open (domain_of ds vs place) ≡ true
  pub least : (k : ℕ) → k < length vs → is_open (domain_of ds vs k) ≡ true → rank pick (domain_of ds vs place) ≤ℤ rank pick (domain_of ds vs k)
  pub first : (k : ℕ) → k < place → is_open (domain_of ds vs k) ≡ true → rank pick (domain_of ds vs place) <ℤ rank pick (domain_of ds vs k)

-- the first in the part with more than one value left
pub record IsFirstOpen (ds : List (List (ℤ × ℤ))) (vs : List ℕ) (place : ℕ) : Type 0 where
  pub within : place < length vs
  pub several : is_open (domain_of ds vs place) ≡ true
  pub first : (k : ℕ) → k < place → is_open (domain_of ds vs k) ≡ false
