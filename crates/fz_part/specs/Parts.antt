-- Parts of a model: lists of decisions. An assignment is in a part where it meets each of them, so `0=3` and `0!=3` are two parts of a
-- model that has a variable, and the part without a decision is the whole model.
use Rattle.std.specs.Prelude.{◌≡◌, ℤ, Bool, false, Option, Some, None, List, [], ◌∷◌, ◌++◌, map, count_by, unwrap_or, MatchOption}
use Rattle.std.specs.List.{AllByRecursion, list_all}
use Rattle.fz_spec.specs.declared.builtin.Builtin.{Builtin}
use Rattle.fz_spec.specs.declared.builtin.Builtin.TheVariants.{BoolEq, BoolNot, BoolLe, BoolLt, IntEq, IntNe, IntLe, IntLt}
use Rattle.fz_spec.specs.declared.goal.Goal.{Goal}
use Rattle.fz_spec.specs.declared.goal.Goal.TheVariants.{Satisfy, Minimize, Maximize}
use Rattle.fz_spec.specs.declared.kind.Kind.{Kind}
use Rattle.fz_spec.specs.declared.kind.Kind.TheVariants as kinds
use Rattle.fz_spec.specs.declared.term.Term.{Term}
use Rattle.fz_spec.specs.declared.term.Term.TheVariants.{Num, Var}
use Rattle.fz_spec.specs.Constraints.{Argument, One, Constraint}
use Rattle.fz_spec.specs.Instance.{Instance, Variable, Satisfies}
use Rattle.fz_model.specs.Kept.{kind_at, IsNumberOf}
use Rattle.fz_tree.specs.declared.decision.Comparison.{Comparison}
use Rattle.fz_tree.specs.declared.decision.Comparison.TheVariants.{Equal, NotEqual, AtMost, Above}
use Rattle.fz_tree.specs.declared.decision.Decision.{Decision}
use Rattle.fz_tree.specs.Choice.{meets}

-- on a variable, with a number of its kind: 0 or 1 where it is a Boolean, else one within the limits
abbrev pub IsDecisionOf : List Variable → Decision → Type 0
IsDecisionOf vs d = MatchOption (kind_at vs d.variable) ⊥ (λ kind. IsNumberOf kind d.value)

abbrev pub IsPartOf : Instance → List Decision → Type 0
IsPartOf m p = AllByRecursion (IsDecisionOf m.variables) p

-- it meets each decision
abbrev pub is_in_part : List ℤ → List Decision → Bool
is_in_part a p = list_all (meets a) p

-- Each satisfying assignment of the model is in exactly one of the parts.
abbrev pub AreParts : Instance → List (List Decision) → Type 0
AreParts m ps = (a : List ℤ) → Satisfies m a → count_by (is_in_part a) ps ≡ 1

-- ---- as constraints

abbrev pub name_of : Kind → Comparison → Builtin
name_of kinds.Bool Equal = BoolEq
name_of kinds.Bool NotEqual = BoolNot
name_of kinds.Bool AtMost = BoolLe
name_of kinds.Bool Above = BoolLt
name_of kinds.Int Equal = IntEq
name_of kinds.Int NotEqual = IntNe
name_of kinds.Int AtMost = IntLe
name_of kinds.Int Above = IntLt

-- that it is above a number says that the number is below it
abbrev pub arguments_of : Comparison → Term → Term → List Argument
arguments_of Above variable number = One number ∷ One variable ∷ []
arguments_of comparison variable number = One variable ∷ One number ∷ []

abbrev pub constraint_of : List Variable → Decision → Constraint
constraint_of vs d = record {
  name = name_of (unwrap_or (kind_at vs d.variable) kinds.Int) d.comparison;
  arguments = arguments_of d.comparison (Var d.variable) (Num d.value);
  whole = false;
}

-- the model with the decisions as constraints behind its own
abbrev pub with_part : Instance → List Decision → Instance
with_part m p = record {
  variables = m.variables;
  constraints = m.constraints ++ map (constraint_of m.variables) p;
  goal = m.goal;
  outputs = m.outputs;
  search = m.search;
}

-- that the goal's term has a better value than this: less where the least is sought, greater where the greatest is
abbrev pub better_than : Goal → ℤ → List Constraint
better_than Satisfy v = []
better_than (Minimize term) v = record { name = IntLt; arguments = One term ∷ One (Num v) ∷ []; whole = false } ∷ []
better_than (Maximize term) v = record { name = IntLt; arguments = One (Num v) ∷ One term ∷ []; whole = false } ∷ []

abbrev pub bounds_of : Goal → Option ℤ → List Constraint
bounds_of goal None = []
bounds_of goal (Some v) = better_than goal v

-- the model with that as a constraint behind its own, where there is such a value
abbrev pub with_bound : Instance → Option ℤ → Instance
with_bound m bound = record {
  variables = m.variables;
  constraints = m.constraints ++ bounds_of m.goal bound;
  goal = m.goal;
  outputs = m.outputs;
  search = m.search;
}

-- what a machine searches: the part, for something better than this, where there is such a value
abbrev pub task_of : Instance → List Decision → Option ℤ → Instance
task_of m p bound = with_bound (with_part m p) bound
