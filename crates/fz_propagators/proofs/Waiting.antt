-- What looks at a constraint that waits answer.
use Rattle.std.proofs.Common.{List, length}
use Rattle.std.specs.Prelude.{ℤ}
use Rattle.std.specs.List.{AllByRecursion}
use Rattle.fz_spec.specs.declared.shape.Shape.{Shape}
use Rattle.fz_spec.specs.Constraints.{Argument, HoldsAs, terms_among}
use Rattle.fz_strength.specs.Domains.{Within, IsTermOf}
use Rattle.fz_strength.specs.Events.{AllFixed}
use Rattle.fz_strength.specs.Sayings.{Other, truth_of, line_of}
use Rattle.fz_strength.proofs.Terms.{within_before}
use Rattle.fz_prop.specs.Answers.{IsAnswerOf}
use Rattle.fz_prop.specs.declared.answer.Answer.TheVariants.{Subsumed, Failed}
use Rattle.fz_spec.proofs.Agreeing.{truth_agrees}
use Rattle.fz_propagators.proofs.Values.{fixed_agree}

-- where all are, one assignment within the domains speaks for all
one_for_all : (shape : Shape) (arguments : List Argument) (ds : List (List (ℤ × ℤ))) (a b : List ℤ) → AllByRecursion (IsTermOf (length ds)) (terms_among arguments)
    → AllFixed ds (terms_among arguments) → Within ds a → Within ds b → HoldsAs shape arguments a → HoldsAs shape arguments b
one_for_all shape arguments ds a b terms fixed in_a in_b h = truth_agrees shape arguments a b (fixed_agree ds (terms_among arguments) a b terms fixed in_a in_b) h

pub always_true : (shape : Shape) (arguments : List Argument) (ds : List (List (ℤ × ℤ))) (a : List ℤ) → AllByRecursion (IsTermOf (length ds)) (terms_among arguments)
    → AllFixed ds (terms_among arguments) → Within ds a → HoldsAs shape arguments a → IsAnswerOf Subsumed (truth_of (Other shape arguments)) (line_of (Other shape arguments)) ds ds
always_true shape arguments ds a terms fixed in_a h = (
  (λ b in_b. one_for_all shape arguments ds a b terms fixed in_a in_b h),
  (λ es domains narrower all b in_b. one_for_all shape arguments ds a b terms fixed in_a (within_before ds es b narrower in_b) h),
)

pub never_true : (shape : Shape) (arguments : List Argument) (ds : List (List (ℤ × ℤ))) (a : List ℤ) → AllByRecursion (IsTermOf (length ds)) (terms_among arguments)
    → AllFixed ds (terms_among arguments) → Within ds a → (HoldsAs shape arguments a → ⊥) → IsAnswerOf Failed (truth_of (Other shape arguments)) (line_of (Other shape arguments)) ds ds
never_true shape arguments ds a terms fixed in_a false = λ b in_b h. false (one_for_all shape arguments ds b a terms fixed in_b in_a h)
