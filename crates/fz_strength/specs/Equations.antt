-- Equations of two or three terms on whole domains: each number that is left has partners (MiniZinc Handbook, "Annotations for
-- propagation strength": domain propagation).
use Rattle.std.specs.Prelude.{◌≡◌, ◌⊎◌, ◌≤◌, ◌*◌, ℕ, ℤ, List, [], ◌∷◌, map, slice_get, Some}
use Rattle.fz_sets.specs.Sets.{IsInSet, set_size, single}
use Rattle.fz_spec.specs.declared.term.Term.{Term}
use Rattle.fz_spec.specs.Constraints.{term_value, term_values}
use Rattle.fz_spec.specs.Truth.{weighted_sum}
use Rattle.fz_strength.specs.declared.equation.TheConstants.{FEW_PAIRS}
use Rattle.fz_strength.specs.Domains.{term_set}
use Rattle.fz_strength.specs.declared.cost.Cost.TheVariants.{Quadratic}
use Rattle.fz_strength.specs.declared.event.Event.TheVariants.{Any}
use Rattle.fz_strength.specs.Events.{waits_for}
use Rattle.fz_strength.specs.Meanings.{Meaning}

-- what is left of terms
abbrev pub sets_of : List (List (ℤ × ℤ)) → List Term → List (List (ℤ × ℤ))
sets_of ds ts = map (term_set ds) ts

-- an assignment gives each of the terms a number of its set
abbrev pub AreLeft : List (List (ℤ × ℤ)) → List Term → List ℤ → Type 0
AreLeft [] [] a = Unit {0}
AreLeft [] (t ∷ ts) a = ⊥
AreLeft (d ∷ sets) [] a = ⊥
AreLeft (d ∷ sets) (t ∷ ts) a = IsInSet d (term_value a t) × AreLeft sets ts a

-- Numbers of all terms, this one of this term among them, make the sum c.
pub record HasPartners (sets : List (List (ℤ × ℤ))) (ks : List ℤ) (ts : List Term) (c : ℤ) (t : Term) (x : ℤ) : Type 0 where
  pub numbers : List ℤ
  pub left : AreLeft sets ts numbers
  pub own : term_value numbers t ≡ x
  pub sum : weighted_sum ks (term_values numbers ts) ≡ c

-- each number of each term has partners
abbrev pub HavePartners : List (List (ℤ × ℤ)) → List ℤ → List Term → ℤ → Type 0
HavePartners sets ks ts c = (i : ℕ) (d : List (ℤ × ℤ)) (t : Term) (x : ℤ) → slice_get sets i ≡ Some d → slice_get ts i ≡ Some t → IsInSet d x → HasPartners sets ks ts c t x

-- one of two sets is small, or some two of three have few pairs
abbrev pub HaveFewPairs : List (List (ℤ × ℤ)) → Type 0
HaveFewPairs (d ∷ e ∷ []) = (set_size d ≤ FEW_PAIRS) ⊎ (set_size e ≤ FEW_PAIRS)
HaveFewPairs (d ∷ e ∷ f ∷ []) = ((set_size d * set_size e) ≤ FEW_PAIRS) ⊎ (((set_size d * set_size f) ≤ FEW_PAIRS) ⊎ ((set_size e * set_size f) ≤ FEW_PAIRS))
HaveFewPairs sets = ⊥

-- Each number has partners where pairs are few; and where one number is left of each term, the sum is c.
pub record RestsByNumbers (sets : List (List (ℤ × ℤ))) (ks : List ℤ) (ts : List Term) (c : ℤ) : Type 0 where
  pub partners : HaveFewPairs sets → HavePartners sets ks ts c
  pub fixed : (a : List ℤ) → sets ≡ map single (term_values a ts) → weighted_sum ks (term_values a ts) ≡ c

-- that a weighted sum is a number, by all numbers of its terms
abbrev pub partnered_sum : List ℤ → List Term → ℤ → Meaning
partnered_sum ks ts c = record {
  truth = λ a. weighted_sum ks (term_values a ts) ≡ c;
  line = λ ds. RestsByNumbers (sets_of ds ts) ks ts c;
  waits = waits_for Any ts;
  terms = ts;
  truths = [];
  cost = Quadratic;
}
