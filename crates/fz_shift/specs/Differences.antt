-- How the difference of two variables relates to a number: when an assignment makes it so, and what is left where its propagator
-- rests.
use Rattle.std.specs.Prelude.{◌≡◌, ◌≢◌, ◌⊎◌, ℕ, ℤ, pos, negsuc, neg_ℤ, ◌+ℤ◌, ◌-ℤ◌, ◌≤ℤ◌, List, [], ◌∷◌}
use Rattle.fz_sets.specs.Sets.{IsInSet}
use Rattle.fz_dom.specs.Shape.{least, greatest}
use Rattle.fz_spec.specs.declared.term.Term.{Term}
use Rattle.fz_spec.specs.declared.term.Term.TheVariants.{Var}
use Rattle.fz_spec.specs.declared.shape.Relation.{Relation}
use Rattle.fz_spec.specs.declared.shape.Relation.TheVariants.{Equal, NotEqual}
use Rattle.fz_strength.specs.Domains.{dom_at, number_at, Within}
use Rattle.fz_strength.specs.Events.{IsFixedIn}
use Rattle.fz_spec.specs.Truth.{Relates}
use Rattle.fz_shift.specs.declared.difference.Difference.{Difference}
use Rattle.fz_prop.specs.declared.answer.Answer.{Answer}
use Rattle.fz_prop.specs.Answers.{IsAnswerOf}

-- the sum is the first variable less the second
abbrev pub IsDifferenceOf : ℕ → ℕ → List ℤ → List Term → Type 0
IsDifferenceOf x y ks ts =
    ((ks ≡ pos 1 ∷ negsuc 0 ∷ []) × (ts ≡ Var x ∷ Var y ∷ [])) ⊎ ((ks ≡ negsuc 0 ∷ pos 1 ∷ []) × (ts ≡ Var y ∷ Var x ∷ []))

-- it isn't the difference of two that differ, unless the number has no negative
abbrev pub IsNoneOfTwo : List ℤ → List Term → ℤ → Type 0
IsNoneOfTwo ks ts c = (x y : ℕ) → x ≢ y → (negsuc 2147483646 ≤ℤ c) → IsDifferenceOf x y ks ts → ⊥

abbrev pub IsNoDifference : List ℤ → List Term → Type 0
IsNoDifference ks ts = (x y : ℕ) → IsDifferenceOf x y ks ts → ⊥

-- the first is to be so far above the second as the number of the sum says
pub record IsDifferenceIn (d : Difference) (ks : List ℤ) (ts : List Term) (c : ℤ) : Type 0 where
  pub sum : IsDifferenceOf d.first d.second ks ts
  pub apart : d.first ≢ d.second
  pub above : d.above ≡ c
  pub below : d.below ≡ neg_ℤ c

abbrev pub DifferenceTruth : Relation → ℕ → ℕ → ℤ → List ℤ → Type 0
DifferenceTruth relation x y c a = Relates relation (number_at a x -ℤ number_at a y) c

-- the ends of the first are at most c above those of the second
pub record IsCloseAbove (ds : List (List (ℤ × ℤ))) (x y : ℕ) (c : ℤ) : Type 0 where
  pub least_end : least (dom_at ds x) ≤ℤ (least (dom_at ds y) +ℤ c)
  pub greatest_end : greatest (dom_at ds x) ≤ℤ (greatest (dom_at ds y) +ℤ c)
  pub reached : least (dom_at ds x) ≤ℤ (greatest (dom_at ds y) +ℤ c)

-- where one of the two is fixed, no number left makes the difference c
abbrev pub ArePartnersOut : List (List (ℤ × ℤ)) → ℕ → ℕ → ℤ → Type 0
ArePartnersOut ds x y c = IsFixedIn ds (Var x) ⊎ IsFixedIn ds (Var y) → (a : List ℤ) → Within ds a → DifferenceTruth NotEqual x y c a

abbrev pub DifferenceLine : Relation → ℕ → ℕ → ℤ → List (List (ℤ × ℤ)) → Type 0
DifferenceLine Equal x y c ds = IsCloseAbove ds x y c × IsCloseAbove ds y x (neg_ℤ c)
DifferenceLine NotEqual x y c ds = ArePartnersOut ds x y c
DifferenceLine relation x y c ds = ⊥

abbrev pub IsAnswerDifference : Relation → ℕ → ℕ → ℤ → Answer → List (List (ℤ × ℤ)) → List (List (ℤ × ℤ)) → Type 0
IsAnswerDifference relation x y c answer ds es = IsAnswerOf answer (DifferenceTruth relation x y c) (DifferenceLine relation x y c) ds es

-- each number left of the one has its partner in the other
pub record ArePartners (ds : List (List (ℤ × ℤ))) (x y : ℕ) (c : ℤ) : Type 0 where
  pub below : (z : ℤ) → IsInSet (dom_at ds x) z → IsInSet (dom_at ds y) (z -ℤ c)
  pub above : (z : ℤ) → IsInSet (dom_at ds y) z → IsInSet (dom_at ds x) (z +ℤ c)
