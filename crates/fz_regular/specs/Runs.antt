-- Runs of an automaton over symbols that are allowed at each place. States and symbols are counted from 0 here: state p is the number
-- p + 1, and so is a symbol.
use Rattle.std.specs.Prelude.{◌≡◌, ◌<◌, ◌↔◌, ℕ, zero, suc, ◌+◌, ◌-◌, ℤ, pos, List, [], length, slice_get, Some}
use Rattle.fz_sets.specs.Sets.{IsInSet}
use Rattle.fz_spec.specs.declared.term.Term.{Term}
use Rattle.fz_spec.specs.Constraints.{term_values}
use Rattle.fz_spec.specs.Truth.{Automaton, IsState, IsSymbol, IsStep, IsAccepted}
use Rattle.fz_strength.specs.Domains.{term_set}
use Rattle.fz_strength.specs.Regular.{IsInLeftWord}
use Rattle.fz_regular.specs.declared.bit_rows.BitRows.{BitRows}
use Rattle.fz_regular.specs.BitRows.{Has, HasRow}

-- the number of a state or of a symbol
abbrev pub number : ℕ → ℤ
number k = pos (k + 1)

-- from state p symbol k leads to state r
pub record LeadsTo (automaton : Automaton) (p k r : ℕ) : Type 0 where
  pub from : IsState automaton (number p)
  pub step : IsStep automaton (number p) (number k) (number r)
  pub to : IsState automaton (number r)

-- from state p symbol k leads somewhere
abbrev pub LeadsOn : Automaton → ℕ → ℕ → Type 0
LeadsOn automaton p k = (r : ℕ) × LeadsTo automaton p k r

-- an automaton of these states and steps
abbrev pub automaton_of : ℤ → ℤ → List ℤ → Automaton
automaton_of states symbols next = record { states = states; symbols = symbols; next = next; start = pos 1; accepting = [] }

-- In the row of each state are the symbols that lead somewhere from it.
pub record AreLeading (automaton : Automaton) (b : BitRows) : Type 0 where
  pub rows : (p : ℕ) → IsState automaton (number p) → HasRow b p
  pub symbols : (p k : ℕ) → IsState automaton (number p) → Has b p k ↔ LeadsOn automaton p k

-- a symbol in a row leads somewhere from state p
abbrev pub LeadsBy : Automaton → BitRows → ℕ → ℕ → ℕ → Type 0
LeadsBy automaton b i p k = Has b i k × LeadsOn automaton p k

-- from the start state r is reached by symbols that are allowed at the first places, so many
abbrev pub IsReached : Automaton → (ℕ → ℕ → Type 0) → ℕ → ℕ → Type 0
IsReached automaton Allows zero r = (automaton.start ≡ number r) × IsState automaton (number r)
IsReached automaton Allows (suc i) r = (p : ℕ) × (k : ℕ) × IsReached automaton Allows i p × Allows i k × LeadsTo automaton p k r

-- the automaton accepts in state p
abbrev pub IsAccepting : Automaton → ℕ → Type 0
IsAccepting automaton p = IsState automaton (number p) × IsInSet automaton.accepting (number p)

-- from state p before place i an accepting state is reached by symbols that are allowed at the next places, so many
abbrev pub CanEnd : Automaton → (ℕ → ℕ → Type 0) → ℕ → ℕ → ℕ → Type 0
CanEnd automaton Allows zero i p = IsAccepting automaton p
CanEnd automaton Allows (suc more) i p = (k : ℕ) × (r : ℕ) × Allows i k × LeadsTo automaton p k r × CanEnd automaton Allows more (suc i) r

-- Symbol k at place i, of that many places, is on the way from the start to an accepting state.
pub record IsOnTheWay (automaton : Automaton) (Allows : ℕ → ℕ → Type 0) (places i k : ℕ) : Type 0 where
  pub from : ℕ
  pub to : ℕ
  pub reached : IsReached automaton Allows i from
  pub allowed : Allows i k
  pub leads : LeadsTo automaton from k to
  pub ends : CanEnd automaton Allows (places - suc i) (suc i) to

-- a number is left at place i
abbrev pub IsLeftAt : List Term → List (List (ℤ × ℤ)) → ℕ → ℤ → Type 0
IsLeftAt xs ds i n = (t : Term) × (slice_get xs i ≡ Some t) × IsInSet (term_set ds t) n

-- at each place the symbols that are left are allowed, and no others
abbrev pub AllowsLeft : Automaton → List Term → List (List (ℤ × ℤ)) → (ℕ → ℕ → Type 0) → Type 0
AllowsLeft automaton xs ds Allows = (i k : ℕ) → i < length xs → IsSymbol automaton (number k) → Allows i k ↔ IsLeftAt xs ds i (number k)

-- the symbol of a number is in a row
abbrev pub IsInRow : BitRows → ℕ → ℤ → Type 0
IsInRow b i n = (k : ℕ) × (n ≡ number k) × Has b i k

-- in the row of each place are the numbers that stand there in lists within the domains that are accepted
abbrev pub AreInWords : Automaton → List Term → List (List (ℤ × ℤ)) → BitRows → Type 0
AreInWords automaton xs ds b = (i : ℕ) (n : ℤ) → i < length xs → IsInRow b i n ↔ IsInLeftWord automaton xs ds i n

-- the values of the terms are accepted
abbrev pub IsAcceptedAt : Automaton → List Term → List ℤ → Type 0
IsAcceptedAt automaton xs a = IsAccepted automaton (term_values a xs)
