-- Layers of states as rows of bits, and the symbols at each place.
use Rattle.std.specs.Prelude.{◌≡◌, ◌↔◌, ◌<◌, ◌≤◌, ◌/◌, ◌-◌, ℕ}
use Rattle.fz_spec.specs.Truth.{Automaton, IsState}
use Rattle.fz_regular.specs.declared.bit_rows.BitRows.{BitRows}
use Rattle.fz_regular.specs.BitRows.{Has, HasRow}
use Rattle.fz_regular.specs.Runs.{number, LeadsTo, IsReached, CanEnd}

-- there are that many rows
abbrev pub HasRows : BitRows → ℕ → Type 0
HasRows b rows = (i : ℕ) → i < rows → HasRow b i

-- each state has a bit in a row
abbrev pub FitsStates : Automaton → BitRows → Type 0
FitsStates automaton b = (k : ℕ) → IsState automaton (number k) → k / 64 < b.width

-- before each of that many places and after the last one stand the states that are reached
abbrev pub AreReached : Automaton → BitRows → ℕ → BitRows → Type 0
AreReached automaton values places layers = (i p : ℕ) → i ≤ places → Has layers i p ↔ IsReached automaton (Has values) i p

-- From some place on those alone from which it can end.
pub record IsEnding (automaton : Automaton) (values : BitRows) (places from : ℕ) (layers : BitRows) (i p : ℕ) : Type 0 where
  pub reached : IsReached automaton (Has values) i p
  pub ends : from ≤ i → CanEnd automaton (Has values) (places - i) i p

abbrev pub AreEnding : Automaton → BitRows → ℕ → ℕ → BitRows → Type 0
AreEnding automaton values places from layers = (i p : ℕ) → i ≤ places → Has layers i p ↔ IsEnding automaton values places from layers i p

-- a symbol leads from a state to one of another row
abbrev pub LeadsAt : Automaton → ℕ → ℕ → ℕ → ℕ → ℕ → Type 0
LeadsAt automaton after p k i r = (i ≡ after) × LeadsTo automaton p k r

-- a symbol at a place does
abbrev pub LedAt : Automaton → BitRows → ℕ → ℕ → ℕ → ℕ → ℕ → Type 0
LedAt automaton values place after p i r = (i ≡ after) × (k : ℕ) × Has values place k × LeadsTo automaton p k r

-- a symbol leads from a state to one of a row
abbrev pub LeadsIn : Automaton → BitRows → ℕ → ℕ → ℕ → Type 0
LeadsIn automaton layers row p k = (r : ℕ) × LeadsTo automaton p k r × Has layers row r

-- a symbol at a place does
abbrev pub Leads : Automaton → BitRows → BitRows → ℕ → ℕ → ℕ → Type 0
Leads automaton values layers place row p = (k : ℕ) × Has values place k × LeadsIn automaton layers row p k

-- a symbol at a place that leads from a state to one of a row
abbrev pub SupportsAt : Automaton → BitRows → BitRows → ℕ → ℕ → ℕ → ℕ → ℕ → Type 0
SupportsAt automaton values layers place row p i k = (i ≡ place) × Has values place k × LeadsIn automaton layers row p k
