-- What the types keep.
use Rattle.std.specs.Prelude.{◌≡◌, ℕ, ℤ, pos, ◌≤◌, ◌<◌, Bool, true, false, IsTrue, List, [], ◌∷◌, length, slice_get, Option, Some, option_map, MatchOption}
use Rattle.std.specs.List.{AllByRecursion}
use Rattle.fz_spec.specs.declared.kind.Kind.{Kind}
use Rattle.fz_spec.specs.declared.kind.Kind.TheVariants as kinds
use Rattle.fz_sets.specs.Sets.{IsWithinLimits, IsInRange, AreRanges, AreWithinLimits}
use Rattle.fz_spec.specs.declared.term.Term.{Term}
use Rattle.fz_spec.specs.declared.term.Term.TheVariants.{Num, Var}
use Rattle.fz_spec.specs.declared.goal.Goal.{Goal}
use Rattle.fz_spec.specs.declared.goal.Goal.TheVariants.{Satisfy, Minimize, Maximize}
use Rattle.fz_spec.specs.declared.asked.Element.{Element}
use Rattle.fz_spec.specs.declared.asked.Asked.{Asked}
use Rattle.fz_spec.specs.declared.asked.Asked.TheVariants as asked
use Rattle.fz_spec.specs.Constraints.{Argument, One, Numbers, Terms, Set, Constraint, fit_lengths}
use Rattle.fz_spec.specs.Signatures.{Row, row_of, signature_of}
use Rattle.fz_spec.specs.Instance.{Instance, Variable, Output, SearchPart, element_count}
use Rattle.fz_spec.specs.declared.limits.TheConstants.{TEXT_LIMIT, VARIABLE_LIMIT, CONSTRAINT_LIMIT, ELEMENT_LIMIT}

-- ---- numbers and sets

abbrev pub AreNumbers : List ℤ → Type 0
AreNumbers xs = AllByRecursion IsWithinLimits xs

-- a Boolean is 0 or 1, an integer within the limits
abbrev pub IsNumberOf : Kind → ℤ → Type 0
IsNumberOf kinds.Bool n = IsInRange (pos 0, pos 1) n
IsNumberOf kinds.Int n = IsWithinLimits n

-- rising ranges within the limits, not too many
pub record IsSet (set : List (ℤ × ℤ)) : Type 0 where
  pub ranges : AreRanges set
  pub within : AreWithinLimits set
  pub few : length set ≤ ELEMENT_LIMIT

-- ---- variables and terms

abbrev pub HasSetOf : Kind → List (ℤ × ℤ) → Type 0
HasSetOf kinds.Bool set = set ≡ (pos 0, pos 1) ∷ []
HasSetOf kinds.Int set = IsSet set

-- a Boolean has the set 0..1
abbrev pub IsVariable : Variable → Type 0
IsVariable v = HasSetOf v.kind v.set

-- what the values of the variable of this number are
abbrev pub kind_at : List Variable → ℕ → Option Kind
kind_at vs v = option_map (λ (u : Variable). u.kind) (slice_get vs v)

-- a number or a variable of this kind
abbrev pub IsTermOf : List Variable → Kind → Term → Type 0
IsTermOf vs kind (Num n) = IsNumberOf kind n
IsTermOf vs kind (Var v) = kind_at vs v ≡ Some kind

-- ---- constraints

-- a number, or where a variable serves a variable, of the kind that is asked
abbrev pub FitsElement : List Variable → Element → Term → Type 0
FitsElement vs element (Num n) = IsNumberOf element.kind n
FitsElement vs element (Var v) = IsTrue element.may_vary × (kind_at vs v ≡ Some element.kind)

-- a list of numbers, or where variables serve a list of terms, of the kind that is asked
abbrev pub FitsList : List Variable → Kind → Bool → Argument → Type 0
FitsList vs kind false (Numbers ns) = (length ns ≤ ELEMENT_LIMIT) × AllByRecursion (IsNumberOf kind) ns
FitsList vs kind true (Terms ts) = (length ts ≤ ELEMENT_LIMIT) × AllByRecursion (IsTermOf vs kind) ts
FitsList vs kind may_vary argument = ⊥

-- the argument is what is asked
abbrev pub FitsAsked : List Variable → Asked → Argument → Type 0
FitsAsked vs (asked.One element) (One term) = FitsElement vs element term
FitsAsked vs (asked.List element) argument = FitsList vs element.kind element.may_vary argument
FitsAsked vs asked.Set (Set set) = IsSet set
FitsAsked vs wanted argument = ⊥

-- as many arguments as are asked, each what is asked
abbrev pub AllFit : List Variable → List Asked → List Argument → Type 0
AllFit vs [] [] = Unit {0}
AllFit vs (wanted ∷ rest) (argument ∷ arguments) = FitsAsked vs wanted argument × AllFit vs rest arguments
AllFit vs [] (argument ∷ arguments) = ⊥
AllFit vs (wanted ∷ rest) [] = ⊥

-- the arguments have one of the signatures of the row, and their lists have the lengths that it asks
pub record FitsRow (vs : List Variable) (row : Row) (arguments : List Argument) : Type 0 where
  pub fit : MatchOption (signature_of row (length arguments)) ⊥ (λ signature. AllFit vs signature arguments)
  pub lengths : IsTrue (fit_lengths row.lengths arguments)

-- a constraint over these variables
abbrev pub IsConstraint : List Variable → Constraint → Type 0
IsConstraint vs c = MatchOption (row_of c.name) ⊥ (λ row. FitsRow vs row c.arguments)

-- ---- output items

abbrev pub IsIndexRange : ℤ × ℤ → Type 0
IsIndexRange r = IsWithinLimits r.0 × IsWithinLimits r.1

-- one to six index ranges, whose sizes multiply to the number of elements
pub record IsShape (shape : List (ℤ × ℤ)) (count : ℕ) : Type 0 where
  pub some : 1 ≤ length shape
  pub few : length shape ≤ 6
  pub within : AllByRecursion IsIndexRange shape
  pub whole : element_count shape ≡ count

-- an array has a shape; what is none has no index range and one term
abbrev pub HasShape : Bool → List (ℤ × ℤ) → ℕ → Type 0
HasShape false shape count = (shape ≡ []) × (count ≡ 1)
HasShape true shape count = IsShape shape count

pub record IsOutput (vs : List Variable) (o : Output) : Type 0 where
  pub name : length o.name ≤ TEXT_LIMIT
  pub few : length o.terms ≤ ELEMENT_LIMIT
  pub terms : AllByRecursion (IsTermOf vs o.kind) o.terms
  pub shape : HasShape o.array o.shape (length o.terms)

-- ---- models

-- the goal is an integer or an integer variable
abbrev pub IsGoal : List Variable → Goal → Type 0
IsGoal vs Satisfy = Unit {0}
IsGoal vs (Minimize term) = IsTermOf vs kinds.Int term
IsGoal vs (Maximize term) = IsTermOf vs kinds.Int term

-- variables of the model
abbrev pub IsSearchPart : List Variable → SearchPart → Type 0
IsSearchPart vs part = (length part.variables ≤ TEXT_LIMIT) × AllByRecursion (λ v. v < length vs) part.variables

pub record IsModel (m : Instance) : Type 0 where
  pub few : length m.variables ≤ VARIABLE_LIMIT
  pub sets : AllByRecursion IsVariable m.variables
  pub few_constraints : length m.constraints ≤ CONSTRAINT_LIMIT
  pub constrained : AllByRecursion (IsConstraint m.variables) m.constraints
  pub goal : IsGoal m.variables m.goal
  pub few_outputs : length m.outputs ≤ TEXT_LIMIT
  pub shown : AllByRecursion (IsOutput m.variables) m.outputs
  pub few_parts : length m.search ≤ TEXT_LIMIT
  pub searched : AllByRecursion (IsSearchPart m.variables) m.search
