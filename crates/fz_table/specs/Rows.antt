-- A list of terms that takes the numbers of a row of a table: when an assignment makes it true, and what its propagator finds.
use Rattle.std.specs.Prelude.{◌≡◌, ◌↔◌, ℕ, ◌+◌, ◌*◌, ℤ, List, length, slice_get, slice_range, Some}
use Rattle.fz_spec.specs.declared.term.Term.{Term}
use Rattle.fz_spec.specs.Constraints.{term_values}
use Rattle.fz_spec.specs.Truth.{IsRowOf}
use Rattle.fz_strength.specs.Tables.{IsLeftRow}
use Rattle.fz_bits.specs.Members.{HasMember}

-- the values of the terms are a row
abbrev pub IsRowAt : List Term → List ℤ → List ℤ → Type 0
IsRowAt xs table a = IsRowOf (term_values a xs) table

-- a row that lies in the domains starts here
abbrev pub IsLeftAt : List Term → List ℤ → List (List (ℤ × ℤ)) → ℕ → Type 0
IsLeftAt xs table ds start = IsLeftRow xs table ds (slice_range table start (start + length xs))

-- the rows that lie in the domains
abbrev pub AreLeft : List Term → List ℤ → List (List (ℤ × ℤ)) → List ℕ → Type 0
AreLeft xs table ds rows = (i : ℕ) → HasMember rows i ↔ IsLeftAt xs table ds (i * length xs)

-- a number stands at this place of one of these rows, each of this width
abbrev pub Stands : List ℤ → ℕ → List ℕ → ℕ → ℤ → Type 0
Stands table width rows place n = (i : ℕ) × HasMember rows i × (slice_get table (i * width + place) ≡ Some n)
