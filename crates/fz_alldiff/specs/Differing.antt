-- Terms that are all different: when an assignment makes it true, and what is done of the work on a store.
use Rattle.std.specs.Prelude.{◌≡◌, ◌≢◌, Bool, true, false, ℕ, ℤ, List, slice_get, slice_index_or, Some}
use Rattle.fz_sets.specs.Sets.{IsInSet}
use Rattle.fz_spec.specs.declared.term.Term.{Term}
use Rattle.fz_spec.specs.Constraints.{term_values}
use Rattle.fz_spec.specs.Truth.{AreDifferent}
use Rattle.fz_strength.specs.Domains.{term_set, Within}
use Rattle.fz_strength.specs.Events.{IsOnly}
use Rattle.fz_strength.specs.Relations.{IsApart}

abbrev pub IsDifferent : List Term → List ℤ → Type 0
IsDifferent xs a = AreDifferent (term_values a xs)

-- no assignment within the domains makes it true
abbrev pub AreNeverDifferent : List Term → List (List (ℤ × ℤ)) → Type 0
AreNeverDifferent xs ds = (a : List ℤ) → Within ds a → IsDifferent xs a → ⊥

-- one number is left at a place
abbrev pub IsFixedPlace : List Term → List (List (ℤ × ℤ)) → ℕ → Type 0
IsFixedPlace xs ds i = (x : Term) × (slice_get xs i ≡ Some x) × ((n : ℤ) × IsOnly (term_set ds x) n)

-- this number alone is left at a place
abbrev pub IsOnlyAt : List Term → List (List (ℤ × ℤ)) → ℕ → ℤ → Type 0
IsOnlyAt xs ds i n = (x : Term) × (slice_get xs i ≡ Some x) × IsOnly (term_set ds x) n

abbrev pub IsDone : List Bool → ℕ → Type 0
IsDone done i = slice_index_or done i false ≡ true

-- one number is left at a place, and it isn't in what is left of any other
abbrev pub IsCleared : List Term → List (List (ℤ × ℤ)) → ℕ → Type 0
IsCleared xs ds i = IsFixedPlace xs ds i
    × ((j : ℕ) (x y : Term) → i ≢ j → slice_get xs i ≡ Some x → slice_get xs j ≡ Some y → IsApart (term_set ds x) (term_set ds y))

-- each place that is done is cleared
abbrev pub AreCleared : List Term → List (List (ℤ × ℤ)) → List Bool → Type 0
AreCleared xs ds done = (i : ℕ) → IsDone done i → IsCleared xs ds i

-- a number isn't in what is left of any place that isn't done, but for one
abbrev pub IsOutside : List Term → List (List (ℤ × ℤ)) → List Bool → ℤ → ℕ → Type 0
IsOutside xs ds done n i = (j : ℕ) (y : Term) → i ≢ j → (IsDone done j → ⊥) → slice_get xs j ≡ Some y → IsInSet (term_set ds y) n → ⊥
