-- A run that takes a sum for the difference of two variables, where it is known to be one.
use Rattle.std.proofs.Common.{◌≡◌, ℕ, ◌<◌, List, inl, inr, refl}
use Rattle.std.specs.Prelude.{ℤ, Result, Ok, Err, IfOk}
use Rattle.fz_spec.specs.declared.term.Term.{Term}
use Rattle.fz_spec.specs.declared.shape.Relation.{Relation}
use Rattle.fz_spec.specs.declared.shape.Relation.TheVariants.{Equal, NotEqual, AtMost, Below}
use Rattle.fz_prop.specs.declared.answer.Answer.{Answer}
use Rattle.fz_shift.specs.declared.difference.Difference.{Difference}
use Rattle.fz_linear.specs.declared.shape.Shape.{Shape}
use Rattle.fz_linear.specs.declared.shape.Shape.TheVariants.{Two, Three, Other}
use Rattle.fz_linear.specs.Terms.{AreTermsOf}
use Rattle.fz_shift.specs.Differences.{IsDifferenceOf}
use Rattle.fz_linear.specs.Shapes.{IsPruned}

-- the two are variables of the store
pub both_inside : (x y n : ℕ) (ks : List ℤ) (ts : List Term) → IsDifferenceOf x y ks ts → AreTermsOf n ts → (x < n) × (y < n)
both_inside x y n ks ts h inside = elim h [
  | inl is ↦ let two = rw is.1 at inside in (two.0, two.1.0)
  | inr is ↦ let two = rw is.1 at inside in (two.1.0, two.0)
]

-- nothing more is said of another relation, or of what is no difference
pub pruned_none : (relation : Relation) (shape : Shape) (answer : Answer) (es : List (List (ℤ × ℤ))) → (relation ≡ Equal → (d : Difference) → shape ≡ Two d → ⊥)
    → IsPruned relation shape answer es
pruned_none Equal (Two d) answer es none = absurd (none refl d refl)
pruned_none Equal (Three p) answer es none = tt
pruned_none Equal Other answer es none = tt
pruned_none NotEqual shape answer es none = tt
pruned_none AtMost shape answer es none = tt
pruned_none Below shape answer es none = tt

pub whatever : {T E : Type 0} → (r : Result T E) (P : T → Type 0) → ((x : T) → P x) → IfOk r P
whatever (Ok x) P p = p x
whatever (Err x) P p = tt
