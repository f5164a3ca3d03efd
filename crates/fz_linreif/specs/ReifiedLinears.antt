-- A linear constraint and a Boolean: what shows and what refutes it, and what the propagator keeps.
use Rattle.std.specs.Prelude.{◌≡◌, ◌≢◌, ◌≤◌, ℤ, pos, List, length, Bool, true, false}
use Rattle.std.specs.List.{AllByRecursion}
use Rattle.fz_spec.specs.declared.limits.TheConstants.{ELEMENT_LIMIT}
use Rattle.fz_spec.specs.declared.term.Term.{Term}
use Rattle.fz_spec.specs.declared.shape.Relation.{Relation}
use Rattle.fz_spec.specs.declared.shape.Relation.TheVariants.{Below}
use Rattle.fz_strength.specs.ReifiedSums.{IsSumShown, IsSumRefuted}
use Rattle.fz_prop.specs.declared.answer.Answer.{Answer}
use Rattle.fz_prop.specs.Answers.{IsAnswerOf}
use Rattle.fz_prop.specs.Stores.{FitsTerm}
use Rattle.fz_prop.specs.Truths.{Sides}
use Rattle.fz_linear.specs.declared.narrow.Precision.{Precision}
use Rattle.fz_linear.specs.Precisions.{Allows}
use Rattle.fz_linear.specs.Sums.{SumTruth, SumFalse, SumLine, AgainstLine}

abbrev pub sum_sides : Relation → List ℤ → List Term → ℤ → Sides
sum_sides relation ks ts c = record {
  shown = λ ds. IsSumShown relation ds ks ts c;
  refuted = λ ds. IsSumRefuted relation ds ks ts c;
  line = SumLine relation ks ts c;
  against = AgainstLine relation ks ts c;
}

-- the number of a Boolean that is fixed, by whether it says yes
abbrev pub truth_number : Bool → ℤ
truth_number true = pos 1
truth_number false = pos 0

-- the sum so relates to the number, or it doesn't, as is said
abbrev pub SaidTruth : Bool → Relation → List ℤ → List Term → ℤ → List ℤ → Type 0
SaidTruth true relation ks ts c = SumTruth relation ks ts c
SaidTruth false relation ks ts c = SumFalse relation ks ts c

abbrev pub SaidLine : Bool → Relation → List ℤ → List Term → ℤ → List (List (ℤ × ℤ)) → Type 0
SaidLine true relation ks ts c = SumLine relation ks ts c
SaidLine false relation ks ts c = AgainstLine relation ks ts c

abbrev pub IsAnswerSaid : Bool → Relation → List ℤ → List Term → ℤ → Answer → List (List (ℤ × ℤ)) → List (List (ℤ × ℤ)) → Type 0
IsAnswerSaid said relation ks ts c answer ds es = IsAnswerOf answer (SaidTruth said relation ks ts c) (SaidLine said relation ks ts c) ds es

-- It is no strict order; it has a factor for each term, not too many, with numbers within the limits; and its factors allow the bits
-- in which its sum is added up.
pub record IsReifiedLinear (relation : Relation) (factors : List ℤ) (terms : List Term) (precision : Precision) : Type 0 where
  pub bounded : relation ≢ Below
  pub same : length factors ≡ length terms
  pub few : length terms ≤ ELEMENT_LIMIT
  pub fits : AllByRecursion FitsTerm terms
  pub allowed : Allows precision factors
