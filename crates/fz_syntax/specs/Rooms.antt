-- How much more there may be after what was added.
use Rattle.std.specs.Prelude.{◌≡◌, ℕ, ◌+◌, List, [], Result, Some, MatchResult, slice_get}
use Rattle.fz_spec.specs.declared.limits.TheConstants.{VARIABLE_LIMIT, CONSTRAINT_LIMIT, ELEMENT_LIMIT}
use Rattle.fz_language.specs.Rules.{Addition, Counts, all_counted, over}
use Rattle.fz_syntax.specs.declared.limits.Room.{Room}

-- what is left of each limit after that many
pub record IsRoom (room : Room) (n : Counts) : Type 0 where
  pub variables : n.variables + room.variables ≡ VARIABLE_LIMIT
  pub constraints : n.constraints + room.constraints ≡ CONSTRAINT_LIMIT
  pub elements : n.elements + room.elements ≡ ELEMENT_LIMIT

-- what is left after these additions too, or else the place of the first over a limit
abbrev pub IsBehind : Counts → List Addition → Result Room ℕ → Type 0
IsBehind n additions result =
    MatchResult result (λ room. IsRoom room (all_counted n additions) × (over n additions ≡ [])) (λ at. slice_get (over n additions) 0 ≡ Some at)

-- no addition so far is over a limit, and so much is left
abbrev pub IsSoFar : Counts → List Addition → Room → Type 0
IsSoFar n additions room = IsRoom room (all_counted n additions) × (over n additions ≡ [])
