-- What a model means: its assignments, which of them satisfy, and which is better (MiniZinc Handbook, "FlatZinc").
use Rattle.std.specs.Prelude.{◌≡◌, ◌≢◌, ℕ, ℤ, pos, Bool, ◌-ℤ◌, ◌<ℤ◌, ◌*◌, List, [], ◌∷◌, length, count_by, true, false, cond}
use Rattle.std.specs.Ordering.{int_eq}
use Rattle.std.specs.List.{AllByRecursion}
use Rattle.fz_spec.specs.declared.kind.Kind.{Kind}
use Rattle.fz_spec.specs.declared.goal.Goal.{Goal}
use Rattle.fz_spec.specs.declared.goal.Goal.TheVariants.{Satisfy, Minimize, Maximize}
use Rattle.fz_spec.specs.declared.search.Pick.{Pick}
use Rattle.fz_spec.specs.declared.search.Value.{Value}
use Rattle.fz_spec.specs.declared.term.Term.{Term}
use Rattle.fz_sets.specs.Sets.{IsInSet, LEAST, GREATEST, interval, set_size}
use Rattle.fz_spec.specs.Constraints.{Constraint, IsTrueOf, term_value}

-- a variable: what its values are, and the set that it is declared with (0..1 for a Boolean)
pub record Variable : Type 0 where
  pub kind : Kind
  pub set : List (ℤ × ℤ)

-- how many indices a range has, and how many elements an array of these index ranges
abbrev pub index_count : ℤ × ℤ → ℕ
index_count r = set_size (interval r.0 r.1)

abbrev pub element_count : List (ℤ × ℤ) → ℕ
element_count [] = 1
element_count (r ∷ shape) = index_count r * element_count shape

-- An output item: its name, what its values are, whether it is an array, the index ranges of an array, and its terms.
-- One that is no array has no index range and one term.
pub record Output : Type 0 where
  pub name : List ℕ
  pub kind : Kind
  pub array : Bool
  pub shape : List (ℤ × ℤ)
  pub terms : List Term

-- a part of the search: the numbers of its variables, which of them is picked, and how its values are parted
pub record SearchPart : Type 0 where
  pub variables : List ℕ
  pub pick : Pick
  pub value : Value

-- Variables and output items stand in the order of their declaration, constraints and search parts in the order of the text.
pub record Instance : Type 0 where
  pub variables : List Variable
  pub constraints : List Constraint
  pub goal : Goal
  pub outputs : List Output
  pub search : List SearchPart

-- an assignment has one number for each variable, each in its declared set
abbrev pub AreDeclared : List Variable → List ℤ → Type 0
AreDeclared [] [] = Unit {0}
AreDeclared (v ∷ vs) (x ∷ xs) = IsInSet v.set x × AreDeclared vs xs
AreDeclared [] (x ∷ xs) = ⊥
AreDeclared (v ∷ vs) [] = ⊥

pub record Satisfies (m : Instance) (a : List ℤ) : Type 0 where
  pub declared : AreDeclared m.variables a
  pub constraints : AllByRecursion (IsTrueOf a) m.constraints

-- whether two assignments are the same
abbrev pub is_same : List ℤ → List ℤ → Bool
is_same [] [] = true
is_same (x ∷ xs) (y ∷ ys) = cond (int_eq x y) (is_same xs ys) false
is_same [] (y ∷ ys) = false
is_same (x ∷ xs) [] = false

-- how often an assignment stands in a list
abbrev pub occurrences : List ℤ → List (List ℤ) → ℕ
occurrences a l = count_by (is_same a) l

-- Each satisfying assignment stands in the list once, and nothing else does.
pub record Lists (m : Instance) (l : List (List ℤ)) : Type 0 where
  pub sound : AllByRecursion (Satisfies m) l
  pub each_once : (a : List ℤ) → Satisfies m a → occurrences a l ≡ 1

-- what is to be as little as it may: how far the goal's value is above the least number, or below the greatest
abbrev pub score_of : Goal → List ℤ → ℤ
score_of Satisfy a = pos 0
score_of (Minimize term) a = term_value a term -ℤ LEAST
score_of (Maximize term) a = GREATEST -ℤ term_value a term

abbrev pub score : Instance → List ℤ → ℤ
score m a = score_of m.goal a

-- one number for each variable
abbrev pub IsWhole : Instance → List ℤ → Type 0
IsWhole m a = length a ≡ length m.variables

-- of two assignments the first is better
pub record IsBetter (m : Instance) (a b : List ℤ) : Type 0 where
  pub goal : m.goal ≢ Satisfy
  pub whole : IsWhole m a
  pub other_whole : IsWhole m b
  pub less : score m a <ℤ score m b

-- each is better than the one before it
abbrev pub AreImproving : Instance → List (List ℤ) → Type 0
AreImproving m [] = Unit {0}
AreImproving m (x ∷ []) = Unit {0}
AreImproving m (x ∷ y ∷ ys) = IsBetter m y x × AreImproving m (y ∷ ys)

-- it satisfies, and nothing that satisfies is better
pub record IsBest (m : Instance) (a : List ℤ) : Type 0 where
  pub satisfies : Satisfies m a
  pub unbettered : (b : List ℤ) → Satisfies m b → IsBetter m b a → ⊥
