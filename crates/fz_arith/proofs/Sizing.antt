-- What is kept of roots of squares, and of halves of what is twice a number.
use Rattle.std.proofs.Common.{◌≡◌, List, [], ◌∷◌, sym, subst, length, Result, Ok, Err}
use Rattle.std.specs.Prelude.{ℤ, ◌+ℤ◌, ◌*ℤ◌, OnErr, IfOk}
use Rattle.fz_sets.specs.Sets.{IsInSet}
use Rattle.fz_dom.specs.Changes.{IsFromTo}
use Rattle.fz_dom.specs.declared.change.Change.{Change}
use Rattle.fz_dom.specs.declared.change.Change.TheVariants.{Same, Changed, Wiped}
use Rattle.fz_spec.specs.declared.term.Term.{Term}
use Rattle.fz_spec.specs.Constraints.{term_value}
use Rattle.fz_spec.specs.declared.shape.Operation.TheVariants.{Plus, Times}
use Rattle.fz_strength.specs.Domains.{term_set, Within, IsTermOf}
use Rattle.fz_strength.specs.Operations.{Equation, equation, EquationTruth}
use Rattle.fz_prop.specs.Answers.{IsCorrectOf}
use Rattle.fz_prop.specs.Stores.{Stored, Shrinks, IsTermChange}
use Rattle.fz_prop.proofs.TermChanges.{term_within, within_kept, none_kept, falls_of}
use Rattle.fz_arith.specs.Narrowing.{IsHelped}

-- ---- what is kept

pub kept_correct : {E : Type 0} (o : Result Change E) (t : Term) (P : ℤ → Type 0) (e : Equation) (r s : Stored) → ((a : List ℤ) → Within r.doms a → EquationTruth e a → P (term_value a t))
    → OnErr o (s ≡ r) → IfOk o (λ change. IsTermChange change t P r s) → Shrinks r s → IsCorrectOf (EquationTruth e) r.doms s.doms
kept_correct {E} (Ok change) t P e r s needs err h shrinks = λ a holds within. within_kept change t P r s a h shrinks within (needs a within holds)
kept_correct {E} (Err error) t P e r s needs err h shrinks = λ a holds within. subst (λ (u : Stored). Within u.doms a) (sym err) within

pub kept_help : (answer : Change) (t : Term) (P : ℤ → Type 0) (e : Equation) (r s : Stored) → IsTermOf (length r.doms) t → ((a : List ℤ) → Within r.doms a → EquationTruth e a → P (term_value a t))
    → IsTermChange answer t P r s → IsHelped answer e r s
kept_help Same t P e r s is needs h = tt
kept_help Changed t P e r s is needs h = falls_of t P r s h
kept_help Wiped t P e r s is needs h = λ a within holds. none_kept t P r s h (term_value a t) (term_within r.doms a t is within) (needs a within holds)

pub all_help : {E : Type 0} (o : Result Change E) (t : Term) (P : ℤ → Type 0) (e : Equation) (r s : Stored) → IsTermOf (length r.doms) t
    → ((a : List ℤ) → Within r.doms a → EquationTruth e a → P (term_value a t)) → IfOk o (λ change. IsTermChange change t P r s) → IfOk o (λ change. IsHelped change e r s)
all_help {E} (Ok change) t P e r s is needs h = kept_help change t P e r s is needs h
all_help {E} (Err error) t P e r s is needs h = tt

-- ---- what the bounds say of an assignment

pub needs_root : (x z : Term) (ds : List (List (ℤ × ℤ))) (low high : ℤ) → IsTermOf (length ds) x → IsTermOf (length ds) z
    → ((u : ℤ) → IsInSet (term_set ds x) u → IsInSet (term_set ds z) (u *ℤ u) → IsFromTo low high u)
    → (a : List ℤ) → Within ds a → EquationTruth (equation Times (x ∷ x ∷ []) z) a → IsFromTo low high (term_value a x)
needs_root x z ds low high is_x is_z between = λ a within holds.
    between (term_value a x) (term_within ds a x is_x within) (subst (IsInSet (term_set ds z)) (sym holds) (term_within ds a z is_z within))

pub needs_half : (x z : Term) (ds : List (List (ℤ × ℤ))) (low high : ℤ) → IsTermOf (length ds) z
    → ((u : ℤ) → IsInSet (term_set ds z) (u +ℤ u) → IsFromTo low high u)
    → (a : List ℤ) → Within ds a → EquationTruth (equation Plus (x ∷ x ∷ []) z) a → IsFromTo low high (term_value a x)
needs_half x z ds low high is_z between = λ a within holds. between (term_value a x) (subst (IsInSet (term_set ds z)) (sym holds) (term_within ds a z is_z within))
