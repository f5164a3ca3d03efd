-- What the propagator of a linear constraint keeps.
use Rattle.std.specs.Prelude.{◌≡◌, ◌≢◌, ◌+◌, ◌≤◌, ℕ, ℤ, negsuc, ◌≤ℤ◌, List, length}
use Rattle.std.specs.List.{AllByRecursion}
use Rattle.fz_spec.specs.declared.limits.TheConstants.{ELEMENT_LIMIT}
use Rattle.fz_spec.specs.declared.term.Term.{Term}
use Rattle.fz_spec.specs.declared.shape.Relation.{Relation}
use Rattle.fz_spec.specs.declared.shape.Relation.TheVariants.{Equal, Below}
use Rattle.fz_strength.specs.Sayings.{Saying, Sum}
use Rattle.fz_prop.specs.declared.answer.Answer.{Answer}
use Rattle.fz_prop.specs.declared.answer.Answer.TheVariants.{Failed}
use Rattle.fz_prop.specs.Stores.{FitsTerm}
use Rattle.fz_shift.specs.Differences.{IsDifferenceOf, ArePartners}
use Rattle.fz_linear.specs.Precisions.{Allows}
use Rattle.fz_linear.specs.Shapes.{IsShapeIn}
use Rattle.fz_linear.specs.declared.narrow.Precision.{Precision}
use Rattle.fz_linear.specs.declared.shape.Shape.{Shape}

-- It is no strict order; it has a factor for each term, not too many, with numbers within the limits; its factors allow the bits in
-- which its sum is added up; and it keeps what its sum is by its variables.
pub record IsLinear (relation : Relation) (factors : List ℤ) (terms : List Term) (number : ℤ) (precision : Precision) (shape : Shape) : Type 0 where
  pub bounded : relation ≢ Below
  pub same : length factors ≡ length terms
  pub few : length terms ≤ ELEMENT_LIMIT + 1
  pub fits : AllByRecursion FitsTerm terms
  pub allowed : Allows precision factors
  pub shaped : IsShapeIn shape factors terms number

-- it says how far one variable is above another
pub record IsDifferenceEquation (s : Saying) (x y : ℕ) (c : ℤ) : Type 0 where
  pub factors : List ℤ
  pub terms : List Term
  pub says : s ≡ Sum Equal factors terms c
  pub sum : IsDifferenceOf x y factors terms

-- where it does, each number left of the one variable has its partner in the other, unless the run failed
abbrev pub IsPrunedOf : Saying → Answer → List (List (ℤ × ℤ)) → Type 0
IsPrunedOf s answer ds = (x y : ℕ) (c : ℤ) → x ≢ y → (negsuc 2147483646 ≤ℤ c) → IsDifferenceEquation s x y c → answer ≢ Failed → ArePartners ds x y c
