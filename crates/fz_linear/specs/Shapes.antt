-- What a sum is by its variables, and what is left of them where it is kept on whole domains.
use Rattle.std.specs.Prelude.{◌≢◌, ℤ, List}
use Rattle.fz_spec.specs.declared.term.Term.{Term}
use Rattle.fz_spec.specs.declared.shape.Relation.{Relation}
use Rattle.fz_spec.specs.declared.shape.Relation.TheVariants.{Equal}
use Rattle.fz_prop.specs.declared.answer.Answer.{Answer}
use Rattle.fz_prop.specs.declared.answer.Answer.TheVariants.{Failed}
use Rattle.fz_shift.specs.Planes.{IsPlaneIn}
use Rattle.fz_shift.specs.Differences.{IsDifferenceIn, IsNoneOfTwo, ArePartners}
use Rattle.fz_linear.specs.declared.shape.Shape.{Shape}
use Rattle.fz_linear.specs.declared.shape.Shape.TheVariants.{Two, Three, Other}

-- a difference or a plane is its sum, and no other is a difference
abbrev pub IsShapeIn : Shape → List ℤ → List Term → ℤ → Type 0
IsShapeIn (Two d) ks ts n = IsDifferenceIn d ks ts n
IsShapeIn (Three p) ks ts n = IsPlaneIn p ks ts n × IsNoneOfTwo ks ts n
IsShapeIn Other ks ts n = IsNoneOfTwo ks ts n

-- of a sum that is to be a number, and is a difference, nothing is left without a partner, unless the run failed
abbrev pub IsPruned : Relation → Shape → Answer → List (List (ℤ × ℤ)) → Type 0
IsPruned Equal (Two d) answer ds = answer ≢ Failed → ArePartners ds d.first d.second d.above
IsPruned relation shape answer ds = Unit {0}
