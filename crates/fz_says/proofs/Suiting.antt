-- What is said of a model's variables takes for 0 and 1 what is left so.
use Rattle.std.proofs.Common.{◌≡◌, ℕ, zero, suc, List, [], ◌∷◌, sym, subst, inl, inr}
use Rattle.std.specs.Prelude.{ℤ, pos, Some}
use Rattle.std.specs.List.{AllByRecursion}
use Rattle.fz_sets.specs.Sets.{IsInSet, IsInRange}
use Rattle.fz_sets.proofs.Lists.{some_is}
use Rattle.fz_spec.specs.declared.kind.Kind.{Kind}
use Rattle.fz_spec.specs.declared.kind.Kind.TheVariants as kinds
use Rattle.fz_spec.specs.declared.term.Term.{Term}
use Rattle.fz_spec.specs.declared.term.Term.TheVariants.{Num, Var}
use Rattle.fz_spec.specs.Instance.{Variable}
use Rattle.fz_model.specs.Kept as kept
use Rattle.fz_model.specs.Kept.{kind_at, HasSetOf, IsVariable}
use Rattle.fz_strength.specs.Domains.{dom_at}
use Rattle.fz_strength.specs.Promises.{IsTruth}
use Rattle.fz_strength.specs.Sayings.{truths_of}
use Rattle.fz_strength.proofs.Terms.{is_single}
use Rattle.fz_prop.specs.Stores.{declared_sets}
use Rattle.fz_says.specs.Fits.{FitSuits}

-- one has the set 0..1
bool_set : (vs : List Variable) (v : ℕ) → AllByRecursion IsVariable vs → kind_at vs v ≡ Some kinds.Bool → dom_at (declared_sets vs) v ≡ (pos 0, pos 1) ∷ []
bool_set [] v sets is = absurd (cc (is))
bool_set (u ∷ vs) zero sets is = subst (λ (kind : Kind). HasSetOf kind u.set) (some_is u.kind kinds.Bool is) sets.0
bool_set (u ∷ vs) (suc v) sets is = bool_set vs v sets.1 is

in_bool : (x : ℤ) → IsInSet ((pos 0, pos 1) ∷ []) x → IsInRange (pos 0, pos 1) x
in_bool x member = elim member [ inl h ↦ h | inr h ↦ absurd h ]

bool_truth : (vs : List Variable) (t : Term) → AllByRecursion IsVariable vs → kept.IsTermOf vs kinds.Bool t → IsTruth (declared_sets vs) t
bool_truth vs (Num n) sets is x member = subst (λ (y : ℤ). IsInRange (pos 0, pos 1) y) (sym (is_single x n member)) is
bool_truth vs (Var v) sets is x member = in_bool x (subst (λ (d : List (ℤ × ℤ)). IsInSet d x) (bool_set vs v sets is) member)

bools_truths : (vs : List Variable) (ts : List Term) → AllByRecursion IsVariable vs → AllByRecursion (kept.IsTermOf vs kinds.Bool) ts → AllByRecursion (IsTruth (declared_sets vs)) ts
bools_truths vs [] sets are = tt
bools_truths vs (t ∷ ts) sets are = (bool_truth vs t sets are.0, bools_truths vs ts sets are.1)

pub fit_suits : FitSuits
fit_suits vs s sets fit = bools_truths vs (truths_of s) sets fit.truths
