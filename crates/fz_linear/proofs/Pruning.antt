-- An equation that says how far one variable is above another keeps the difference that it is.
use Rattle.std.proofs.Common.{◌≡◌, ◌≢◌, ℕ, List, sym, subst, inl, inr}
use Rattle.std.specs.Prelude.{ℤ, negsuc, ◌≤ℤ◌}
use Rattle.fz_spec.specs.declared.term.Term.{Term}
use Rattle.fz_spec.specs.declared.shape.Relation.{Relation}
use Rattle.fz_spec.specs.declared.shape.Relation.TheVariants.{Equal}
use Rattle.fz_strength.specs.Sayings.{Sum}
use Rattle.fz_prop.specs.declared.answer.Answer.{Answer}
use Rattle.fz_prop.specs.declared.answer.Answer.TheVariants.{Failed}
use Rattle.fz_linear.specs.declared.shape.Shape.{Shape}
use Rattle.fz_linear.specs.declared.shape.Shape.TheVariants.{Two, Three, Other}
use Rattle.fz_shift.specs.Differences.{IsDifferenceOf, ArePartners}
use Rattle.fz_linear.specs.Shapes.{IsShapeIn, IsPruned}
use Rattle.fz_linear.specs.Linears.{IsPrunedOf}

same_pair : (x y u v : ℕ) (ks : List ℤ) (ts : List Term) → IsDifferenceOf x y ks ts → IsDifferenceOf u v ks ts → (x ≡ u) × (y ≡ v)
same_pair x y u v ks ts a b = elim a [
  | inl p ↦ elim b [ inl q ↦ (let p1 = p.1 in let q1 = q.1 in (cc (p1, q1), cc (p1, q1))) | inr q ↦ (let p0 = p.0 in let q0 = q.0 in absurd (cc (p0, q0))) ]
  | inr p ↦ elim b [ inl q ↦ (let p0 = p.0 in let q0 = q.0 in absurd (cc (p0, q0))) | inr q ↦ (let p1 = p.1 in let q1 = q.1 in (cc (p1, q1), cc (p1, q1))) ]
]

at_difference : (shape : Shape) (ks : List ℤ) (ts : List Term) (n : ℤ) (answer : Answer) (es : List (List (ℤ × ℤ))) (x y : ℕ)
    → IsShapeIn shape ks ts n → IsPruned Equal shape answer es → x ≢ y → (negsuc 2147483646 ≤ℤ n) → IsDifferenceOf x y ks ts → answer ≢ Failed → ArePartners es x y n
at_difference Other ks ts n answer es x y none pruned apart limit two not = absurd (none x y apart limit two)
at_difference (Three p) ks ts n answer es x y is pruned apart limit two not = absurd (is.1 x y apart limit two)
at_difference (Two d) ks ts n answer es x y is pruned apart limit two not =
    let same = same_pair d.first d.second x y ks ts is.sum two in
    subst (λ (u : ℕ). ArePartners es u y n) same.0
    (subst (λ (v : ℕ). ArePartners es d.first v n) same.1
    (subst (λ (c : ℤ). ArePartners es d.first d.second c) is.above (pruned not)))

pub pruned_of : (relation : Relation) (ks : List ℤ) (ts : List Term) (n : ℤ) (shape : Shape) (answer : Answer) (es : List (List (ℤ × ℤ)))
    → IsShapeIn shape ks ts n → IsPruned relation shape answer es → IsPrunedOf (Sum relation ks ts n) answer es
pruned_of relation ks ts n shape answer es shaped pruned x y c apart limit two not =
    let says : Sum relation ks ts n ≡ Sum Equal two.factors two.terms c = two.says in
    let equal : relation ≡ Equal = cc says in
    let factors : two.factors ≡ ks = cc says in
    let terms : two.terms ≡ ts = cc says in
    let number : n ≡ c = cc says in
    let sum : IsDifferenceOf x y ks ts = subst (λ (us : List ℤ). IsDifferenceOf x y us ts) factors (subst (λ (us : List Term). IsDifferenceOf x y two.factors us) terms two.sum) in
    subst (λ (m : ℤ). ArePartners es x y m) number
    (at_difference shape ks ts n answer es x y shaped (subst (λ (p : Relation). IsPruned p shape answer es) equal pruned) apart
    (subst (λ (m : ℤ). negsuc 2147483646 ≤ℤ m) (sym number) limit) sum not)
