-- Two lists of terms, each the inverse of the other.
use Rattle.std.specs.Prelude.{◌≡◌, ◌↔◌, ℕ, ◌+◌, ℤ, pos, List, [], ◌++◌, length, slice_get, Some}
use Rattle.std.specs.List.{AllByRecursion}
use Rattle.fz_sets.specs.Sets.{IsInSet, IsInRange}
use Rattle.fz_spec.specs.declared.term.Term.{Term}
use Rattle.fz_spec.specs.Constraints.{term_values}
use Rattle.fz_spec.specs.Truth.{AreInverse}
use Rattle.fz_strength.specs.declared.cost.Cost.TheVariants.{Quadratic}
use Rattle.fz_strength.specs.declared.event.Event.TheVariants.{Any}
use Rattle.fz_strength.specs.Domains.{term_set}
use Rattle.fz_strength.specs.Events.{waits_for}
use Rattle.fz_strength.specs.Meanings.{Meaning}

-- all that is left of each term is a place, from 1 to the last
abbrev pub ArePlaces : List (List (ℤ × ℤ)) → ℕ → List Term → Type 0
ArePlaces ds last ts = AllByRecursion (λ (t : Term). (x : ℤ) → IsInSet (term_set ds t) x → IsInRange (pos 1, pos last) x) ts

-- As many terms in both lists, of which places are left; and the place of each term of the second is left of a term of the first exactly
-- where that one's place is left of it.
pub record IsInverseLine (fs gs : List Term) (ds : List (List (ℤ × ℤ))) : Type 0 where
  pub size : length fs ≡ length gs
  pub first : ArePlaces ds (length fs) fs
  pub second : ArePlaces ds (length gs) gs
  pub mirrored : (i j : ℕ) (f g : Term) → slice_get fs i ≡ Some f → slice_get gs j ≡ Some g → IsInSet (term_set ds f) (pos (j + 1)) ↔ IsInSet (term_set ds g) (pos (i + 1))

-- that each of two lists of terms is the inverse of the other
abbrev pub inverse : List Term → List Term → Meaning
inverse fs gs = record {
  truth = λ a. AreInverse (term_values a fs) (term_values a gs);
  line = λ ds. IsInverseLine fs gs ds;
  waits = waits_for Any (fs ++ gs);
  terms = fs ++ gs;
  truths = [];
  cost = Quadratic;
}
