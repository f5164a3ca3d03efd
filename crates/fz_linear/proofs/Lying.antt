-- Variables of a sum that lie on a plane.
use Rattle.std.proofs.Common.{ℕ, List, length, sym, subst}
use Rattle.std.specs.Prelude.{ℤ}
use Rattle.fz_spec.specs.declared.term.Term.{Term}
use Rattle.fz_spec.specs.declared.shape.Relation.TheVariants.{Equal}
use Rattle.fz_strength.specs.Domains.{AreDomains}
use Rattle.fz_prop.specs.declared.answer.Answer.{Answer}
use Rattle.fz_prop.specs.declared.answer.Answer.TheVariants.{Fix, NoFix, Subsumed, Failed}
use Rattle.fz_prop.specs.Answers.{IsAnswerOf, IsCorrectOf}
use Rattle.fz_shift.specs.declared.plane.Plane.{Plane}
use Rattle.fz_shift.specs.Planes.{AreInside, HasPartners, PlaneTruth, IsPlaneIn}
use Rattle.fz_linear.specs.Sums.{SumTruth, IsAnswerSum}

-- what an answer says of the plane it says of the sum
pub answer_on : (answer : Answer) (p : Plane) (ks : List ℤ) (ts : List Term) (n : ℤ) (ds es : List (List (ℤ × ℤ))) → IsPlaneIn p ks ts n → AreDomains es → AreInside (length es) p
    → IsAnswerOf answer (PlaneTruth p) (HasPartners p) ds es → IsAnswerSum Equal ks ts n answer ds es
answer_on Fix p ks ts n ds es is domains inside h = is.line es domains inside h
answer_on NoFix p ks ts n ds es is domains inside h = h
answer_on Subsumed p ks ts n ds es is domains inside h = (
  λ a within. (is.truth a).1 (h.0 a within),
  λ fs all narrower. is.line fs all (subst (λ (size : ℕ). AreInside size p) (sym narrower.size) inside) (h.1 fs all narrower),
)
answer_on Failed p ks ts n ds es is domains inside h = λ a within holds. h a within ((is.truth a).0 holds)

pub correct_on : (p : Plane) (ks : List ℤ) (ts : List Term) (n : ℤ) (ds es : List (List (ℤ × ℤ))) → IsPlaneIn p ks ts n → IsCorrectOf (PlaneTruth p) ds es → IsCorrectOf (SumTruth Equal ks ts n) ds es
correct_on p ks ts n ds es is correct = λ a holds within. correct a ((is.truth a).0 holds) within
