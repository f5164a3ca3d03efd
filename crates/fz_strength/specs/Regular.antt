-- A list of terms that an automaton accepts.
use Rattle.std.specs.Prelude.{◌≡◌, ℕ, ℤ, List, [], slice_get, Some}
use Rattle.fz_sets.specs.Sets.{IsInSet}
use Rattle.fz_spec.specs.declared.term.Term.{Term}
use Rattle.fz_spec.specs.Constraints.{term_values}
use Rattle.fz_spec.specs.Truth.{Automaton, IsAccepted}
use Rattle.fz_strength.specs.declared.cost.Cost.TheVariants.{Cubic}
use Rattle.fz_strength.specs.declared.event.Event.TheVariants.{Any}
use Rattle.fz_strength.specs.Domains.{term_set}
use Rattle.fz_strength.specs.Events.{waits_for}
use Rattle.fz_strength.specs.Meanings.{Meaning}
use Rattle.fz_strength.specs.Tables.{LieWithin}

-- a list that the automaton accepts and that lies in the domains
pub record IsLeftWord (automaton : Automaton) (xs : List Term) (ds : List (List (ℤ × ℤ))) (word : List ℤ) : Type 0 where
  pub accepted : IsAccepted automaton word
  pub within : LieWithin ds xs word

-- a number stands at this place of such a list
abbrev pub IsInLeftWord : Automaton → List Term → List (List (ℤ × ℤ)) → ℕ → ℤ → Type 0
IsInLeftWord automaton xs ds j n = (word : List ℤ) × IsLeftWord automaton xs ds word × (slice_get word j ≡ Some n)

-- There is such a list, and each number that is left of a term stands in one at the term's place.
pub record IsRegularLine (automaton : Automaton) (xs : List Term) (ds : List (List (ℤ × ℤ))) : Type 0 where
  pub some : (word : List ℤ) × IsLeftWord automaton xs ds word
  pub supported : (j : ℕ) (t : Term) (n : ℤ) → slice_get xs j ≡ Some t → IsInSet (term_set ds t) n → IsInLeftWord automaton xs ds j n

-- that an automaton accepts terms
abbrev pub regular : Automaton → List Term → Meaning
regular automaton xs = record {
  truth = λ a. IsAccepted automaton (term_values a xs);
  line = λ ds. IsRegularLine automaton xs ds;
  waits = waits_for Any xs;
  terms = xs;
  truths = [];
  cost = Cubic;
}
