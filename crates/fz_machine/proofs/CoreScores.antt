-- Scores of satisfying assignments are natural numbers below 2^32.
use Rattle.std.proofs.Common.{◌≡◌, ◌<◌, ◌^◌, ℕ, zero, suc, List, [], ◌∷◌, arith, Some, None}
use Rattle.std.specs.Prelude.{ℤ, pos, ◌≤ℤ◌, nat_abs, unwrap_or}
use Rattle.std.specs.List.{AllByRecursion, slice_get}
use Rattle.std.proofs.lemmas.Int.{ints}
use Rattle.fz_sets.specs.Sets.{IsInSet, IsWithinLimits}
use Rattle.fz_sets.proofs.Lists.{some_is}
use Rattle.fz_spec.specs.declared.kind.Kind.{Kind}
use Rattle.fz_spec.specs.declared.kind.Kind.TheVariants as kinds
use Rattle.fz_spec.specs.declared.term.Term.{Term}
use Rattle.fz_spec.specs.declared.term.Term.TheVariants.{Num, Var}
use Rattle.fz_spec.specs.declared.goal.Goal.{Goal}
use Rattle.fz_spec.specs.declared.goal.Goal.TheVariants.{Satisfy, Minimize, Maximize}
use Rattle.fz_spec.specs.Constraints.{term_value}
use Rattle.fz_spec.specs.Instance.{Instance, Variable, AreDeclared, Satisfies, score, score_of}
use Rattle.fz_dom.proofs.Ranges.{within_limits}
use Rattle.fz_model.specs.Kept.{IsModel, IsVariable, HasSetOf, IsTermOf, IsGoal, kind_at}

-- the value of a declared integer variable is within the limits
set_within : (kind : Kind) (set : List (ℤ × ℤ)) (x : ℤ) → kind ≡ kinds.Int → HasSetOf kind set → IsInSet set x → IsWithinLimits x
set_within kinds.Int set x is of_kind within = within_limits set x of_kind.within within
set_within kinds.Bool set x is of_kind within = absurd (cc is)

variable_within : (vs : List Variable) (a : List ℤ) (v : ℕ) → AllByRecursion IsVariable vs → AreDeclared vs a → kind_at vs v ≡ Some kinds.Int → IsWithinLimits (unwrap_or (slice_get a v) (pos 0))
variable_within [] a v sets declared is = absurd (let bad : None ≡ Some kinds.Int = is in cc)
variable_within (u ∷ vs) [] v sets declared is = absurd declared
variable_within (u ∷ vs) (x ∷ xs) zero sets declared is = set_within u.kind u.set x (some_is u.kind kinds.Int is) sets.0 declared.0
variable_within (u ∷ vs) (x ∷ xs) (suc v) sets declared is = variable_within vs xs v sets.1 declared.1 is

term_within : (vs : List Variable) (a : List ℤ) (t : Term) → AllByRecursion IsVariable vs → AreDeclared vs a → IsTermOf vs kinds.Int t → IsWithinLimits (term_value a t)
term_within vs a (Num n) sets declared is = is
term_within vs a (Var v) sets declared is = variable_within vs a v sets declared is

abbrev pub IsScore : ℤ → Type 0
IsScore x = (pos 0 ≤ℤ x) × (nat_abs x < 2 ^ 32)

score_within : (vs : List Variable) (a : List ℤ) (goal : Goal) → AllByRecursion IsVariable vs → AreDeclared vs a → IsGoal vs goal → IsScore (score_of goal a)
score_within vs a Satisfy sets declared is = (omega (arith, ints), omega (arith, ints))
score_within vs a (Minimize t) sets declared is =
    let w = term_within vs a t sets declared is in
    (omega (arith, ints, w.0, w.1), omega (arith, ints, w.0, w.1))
score_within vs a (Maximize t) sets declared is =
    let w = term_within vs a t sets declared is in
    (omega (arith, ints, w.0, w.1), omega (arith, ints, w.0, w.1))

pub is_score : (m : Instance) (a : List ℤ) → IsModel m → Satisfies m a → IsScore (score m a)
is_score m a model satisfies = score_within m.variables a m.goal model.sets satisfies.declared model.goal
