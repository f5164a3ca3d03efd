-- Terms in sets.
use Rattle.std.specs.Prelude.{ℤ, List, [], ◌∷◌}
use Rattle.fz_sets.specs.Sets.{IsInSet}
use Rattle.fz_spec.specs.declared.term.Term.{Term}
use Rattle.fz_spec.specs.Constraints.{term_value}
use Rattle.fz_spec.specs.Truth.{IsReified}
use Rattle.fz_strength.specs.declared.cost.Cost.TheVariants.{Unary, Binary}
use Rattle.fz_strength.specs.declared.event.Event.TheVariants.{Any, Fixed}
use Rattle.fz_strength.specs.Domains.{term_set}
use Rattle.fz_strength.specs.Events.{wait_for, waits_for}
use Rattle.fz_strength.specs.Lines.{IsReifiedLine}
use Rattle.fz_strength.specs.Meanings.{Meaning}

-- all numbers of d are in the set, and none is
abbrev pub LiesIn : List (ℤ × ℤ) → List (ℤ × ℤ) → Type 0
LiesIn d set = (x : ℤ) → IsInSet d x → IsInSet set x

abbrev pub LiesOutside : List (ℤ × ℤ) → List (ℤ × ℤ) → Type 0
LiesOutside d set = (x : ℤ) → IsInSet d x → IsInSet set x → ⊥

-- that a term is in a set
abbrev pub membership : Term → List (ℤ × ℤ) → Meaning
membership x set = record {
  truth = λ a. IsInSet set (term_value a x);
  line = λ ds. LiesIn (term_set ds x) set;
  waits = wait_for Fixed x;
  terms = x ∷ [];
  truths = [];
  cost = Unary;
}

-- that the other is 1 exactly where a term is in a set
abbrev pub reified_membership : Term → List (ℤ × ℤ) → Term → Meaning
reified_membership x set r = record {
  truth = λ a. IsReified (IsInSet set (term_value a x)) (term_value a r);
  line = λ ds. let d = term_set ds x in IsReifiedLine (LiesIn d set) (LiesOutside d set) (LiesIn d set) (LiesOutside d set) (term_set ds r);
  waits = waits_for Any (x ∷ r ∷ []);
  terms = x ∷ r ∷ [];
  truths = r ∷ [];
  cost = Binary;
}
