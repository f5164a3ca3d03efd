-- Constraints, and when an assignment makes one true (MiniZinc Handbook, "FlatZinc builtins").
use Rattle.std.specs.Prelude.{◌⊎◌, Bool, true, ◌&&◌, ℕ, ℤ, pos, ◌*ℤ◌, int_le, List, [], ◌∷◌, length, map, flat_map, slice_get, unwrap_or}
use Rattle.std.specs.Ordering.{int_eq}
use Rattle.std.specs.List.{AllByRecursion}
use Rattle.fz_sets.specs.Sets.{IsInSet}
use Rattle.fz_spec.specs.declared.asked.Lengths.{Lengths}
use Rattle.fz_spec.specs.declared.asked.Lengths.TheVariants.{Automaton}
use Rattle.fz_spec.specs.declared.builtin.Builtin.{Builtin}
use Rattle.fz_spec.specs.declared.shape.Shape.{Shape}
use Rattle.fz_spec.specs.declared.shape.Shape.TheVariants.{Rel, Dom, Linear, Clause, Or, And, Xor, Arithmetic, Element, Extensional, Distinct, Cumulative, Regular, Counts, Inverse}
use Rattle.fz_spec.specs.declared.term.Term.{Term}
use Rattle.fz_spec.specs.declared.term.Term.TheVariants.{Num, Var}
use Rattle.fz_spec.specs.Signatures.{shape_of, have_lengths}
use Rattle.fz_spec.specs.Truth.{SomeByRecursion, IsOne, IsZero, IsReified, Relates, weighted_sum, IsResult, IsElement, AreDifferent, IsOdd, IsRowOf, tasks_of, IsCumulative, IsAccepted, AreCounts, AreInverse}

-- an argument of a constraint: a term, a list of numbers, a list of terms, or a set
pub data Argument : Type 0 where
  One : (term : Term) → Argument
  Numbers : (numbers : List ℤ) → Argument
  Terms : (terms : List Term) → Argument
  Set : (set : List (ℤ × ℤ)) → Argument

-- A constraint; it may be marked `:: domain`, which asks for whole domains and says nothing of its truth.
pub record Constraint : Type 0 where
  pub name : Builtin
  pub arguments : List Argument
  pub whole : Bool

-- the lengths of the lists among arguments
abbrev pub list_lengths : List Argument → List ℕ
list_lengths [] = []
list_lengths (One term ∷ arguments) = list_lengths arguments
list_lengths (Numbers ns ∷ arguments) = length ns ∷ list_lengths arguments
list_lengths (Terms ts ∷ arguments) = length ts ∷ list_lengths arguments
list_lengths (Set set ∷ arguments) = list_lengths arguments

-- an automaton has a state, a symbol, and as many next states as there are of both
abbrev pub is_automaton : List Argument → Bool
is_automaton (xs ∷ One (Num states) ∷ One (Num symbols) ∷ Numbers next ∷ rest) = int_le (pos 1) states && int_le (pos 1) symbols && int_eq (pos (length next)) (states *ℤ symbols)
is_automaton arguments = true

-- whether the lists among arguments have the lengths that are asked
abbrev pub fit_lengths : Lengths → List Argument → Bool
fit_lengths Automaton arguments = is_automaton arguments
fit_lengths lengths arguments = have_lengths lengths (list_lengths arguments)

-- the terms among arguments, in order
abbrev pub terms_of : Argument → List Term
terms_of (One t) = t ∷ []
terms_of (Numbers ns) = []
terms_of (Terms ts) = ts
terms_of (Set set) = []

abbrev pub terms_among : List Argument → List Term
terms_among arguments = flat_map terms_of arguments

-- the value that an assignment gives to a term, and to each of a list
abbrev pub term_value : List ℤ → Term → ℤ
term_value a (Num n) = n
term_value a (Var v) = unwrap_or (slice_get a v) (pos 0)

abbrev pub term_values : List ℤ → List Term → List ℤ
term_values a ts = map (term_value a) ts

-- What is said, where no argument is left; and with one Boolean more, that this one is 1 exactly where that is so.
abbrev pub OrReified : List Argument → List ℤ → Type 0 → Type 0
OrReified [] a P = P
OrReified (One r ∷ []) a P = IsReified P (term_value a r)
OrReified rest a P = ⊥

-- What a shape says of its arguments, by the values that an assignment gives them; of arguments of other forms nothing that is true.
abbrev pub HoldsAs : Shape → List Argument → List ℤ → Type 0
HoldsAs (Rel relation) (One x ∷ One y ∷ rest) a = OrReified rest a (Relates relation (term_value a x) (term_value a y))
HoldsAs Dom (One x ∷ Set set ∷ rest) a = OrReified rest a (IsInSet set (term_value a x))
HoldsAs (Linear relation) (Numbers ks ∷ Terms ts ∷ One c ∷ rest) a = OrReified rest a (Relates relation (weighted_sum ks (term_values a ts)) (term_value a c))
HoldsAs Clause (Terms ps ∷ Terms ns ∷ rest) a = OrReified rest a (SomeByRecursion IsOne (term_values a ps) ⊎ SomeByRecursion IsZero (term_values a ns))
HoldsAs Or (Terms ts ∷ rest) a = OrReified rest a (SomeByRecursion IsOne (term_values a ts))
HoldsAs Or (One x ∷ One y ∷ rest) a = OrReified rest a (SomeByRecursion IsOne (term_values a (x ∷ y ∷ [])))
HoldsAs And (Terms ts ∷ rest) a = OrReified rest a (AllByRecursion IsOne (term_values a ts))
HoldsAs And (One x ∷ One y ∷ rest) a = OrReified rest a (AllByRecursion IsOne (term_values a (x ∷ y ∷ [])))
HoldsAs Xor (Terms ts ∷ rest) a = OrReified rest a (IsOdd (term_values a ts))
HoldsAs (Arithmetic operation) (One x ∷ One z ∷ []) a = IsResult operation (term_values a (x ∷ [])) (term_value a z)
HoldsAs (Arithmetic operation) (One x ∷ One y ∷ One z ∷ rest) a = OrReified rest a (IsResult operation (term_values a (x ∷ y ∷ [])) (term_value a z))
HoldsAs (Arithmetic operation) (One z ∷ Terms xs ∷ rest) a = OrReified rest a (IsResult operation (term_values a xs) (term_value a z))
HoldsAs Element (One k ∷ Numbers xs ∷ One c ∷ rest) a = OrReified rest a (IsElement (term_value a k) xs (term_value a c))
HoldsAs Element (One k ∷ Terms xs ∷ One c ∷ rest) a = OrReified rest a (IsElement (term_value a k) (term_values a xs) (term_value a c))
HoldsAs Extensional (Terms xs ∷ Numbers table ∷ rest) a = OrReified rest a (IsRowOf (term_values a xs) table)
HoldsAs Distinct (Terms xs ∷ rest) a = OrReified rest a (AreDifferent (term_values a xs))
HoldsAs Cumulative (Terms ss ∷ Terms ds ∷ Terms us ∷ One b ∷ rest) a = OrReified rest a (IsCumulative (tasks_of (term_values a ss) (term_values a ds) (term_values a us)) (term_value a b))
HoldsAs Regular (Terms xs ∷ One states ∷ One symbols ∷ Numbers next ∷ One start ∷ Set accepting ∷ rest) a =
    OrReified rest a (IsAccepted (record { states = term_value a states; symbols = term_value a symbols; next = next; start = term_value a start; accepting = accepting }) (term_values a xs))
HoldsAs Counts (Terms xs ∷ Numbers cover ∷ Terms counts ∷ rest) a = OrReified rest a (AreCounts (term_values a xs) cover (term_values a counts))
HoldsAs Inverse (Terms fs ∷ Terms gs ∷ rest) a = OrReified rest a (AreInverse (term_values a fs) (term_values a gs))
HoldsAs shape arguments a = ⊥

-- a constraint says what its row says
abbrev pub Holds : Builtin → List Argument → List ℤ → Type 0
Holds name arguments a = HoldsAs (shape_of name) arguments a

abbrev pub IsTrueOf : List ℤ → Constraint → Type 0
IsTrueOf a c = Holds c.name c.arguments a
