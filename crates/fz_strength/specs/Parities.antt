-- Terms an odd number of which are 1.
use Rattle.std.specs.Prelude.{◌≡◌, ◌≢◌, ℕ, ℤ, List, slice_get, Some}
use Rattle.fz_spec.specs.declared.term.Term.{Term}
use Rattle.fz_spec.specs.Constraints.{term_values}
use Rattle.fz_spec.specs.Truth.{IsOdd}
use Rattle.fz_strength.specs.declared.cost.Cost.TheVariants.{Linear}
use Rattle.fz_strength.specs.declared.event.Event.TheVariants.{Fixed}
use Rattle.fz_strength.specs.Domains.{Within}
use Rattle.fz_strength.specs.Events.{IsFixedIn, waits_for}
use Rattle.fz_strength.specs.Meanings.{Meaning}

-- where all terms but one at most are fixed
abbrev pub AreOthersFixed : List (List (ℤ × ℤ)) → List Term → ℕ → Type 0
AreOthersFixed ds ts i = (j : ℕ) (t : Term) → slice_get ts j ≡ Some t → j ≢ i → IsFixedIn ds t

-- where all terms but one are fixed, each assignment within the domains makes it odd
abbrev pub IsOddLine : List Term → List (List (ℤ × ℤ)) → Type 0
IsOddLine ts ds = (i : ℕ) → AreOthersFixed ds ts i → (a : List ℤ) → Within ds a → IsOdd (term_values a ts)

-- that an odd number of terms are 1
abbrev pub parity : List Term → Meaning
parity ts = record {
  truth = λ a. IsOdd (term_values a ts);
  line = λ ds. IsOddLine ts ds;
  waits = waits_for Fixed ts;
  terms = ts;
  truths = ts;
  cost = Linear;
}
