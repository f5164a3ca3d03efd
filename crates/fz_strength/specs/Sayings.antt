-- What a constraint says, as one value.
use Rattle.std.specs.Prelude.{Bool, true, false, ℤ, pos, List, [], ◌∷◌}
use Rattle.fz_spec.specs.declared.shape.Relation.{Relation}
use Rattle.fz_spec.specs.declared.shape.Shape.{Shape}
use Rattle.fz_spec.specs.declared.shape.Shape.TheVariants.{Rel, Dom, Linear, Or, And, Xor, Arithmetic, Element, Extensional, Distinct, Cumulative, Counts}
use Rattle.fz_spec.specs.declared.shape.Shape.TheVariants as shapes
use Rattle.fz_spec.specs.declared.term.Term.{Term}
use Rattle.fz_spec.specs.declared.term.Term.TheVariants.{Num}
use Rattle.fz_spec.specs.Constraints.{Argument, One, Numbers, Terms, Set, Constraint}
use Rattle.fz_spec.specs.Truth.{Automaton}
use Rattle.fz_spec.specs.Signatures.{shape_of}
use Rattle.fz_strength.specs.declared.cost.Cost.{Cost}
use Rattle.fz_strength.specs.Events.{Wait}
use Rattle.fz_strength.specs.Meanings.{Meaning}
use Rattle.fz_strength.specs.Relations.{comparison, reified_comparison}
use Rattle.fz_strength.specs.Memberships.{membership, reified_membership}
use Rattle.fz_strength.specs.Sums.{left_factors, left_terms, right_number, linear}
use Rattle.fz_strength.specs.ReifiedSums.{reified_linear}
use Rattle.fz_strength.specs.Clauses.{Clause, disjunction, conjunction, clause, some_or_all}
use Rattle.fz_strength.specs.Operations.{Equation, equation, arithmetic}
use Rattle.fz_strength.specs.Parities.{parity}
use Rattle.fz_strength.specs.Elements.{element}
use Rattle.fz_strength.specs.VariableElements.{variable_element}
use Rattle.fz_strength.specs.Tables.{table_row}
use Rattle.fz_strength.specs.Regular.{regular}
use Rattle.fz_strength.specs.Differences.{all_different, hall_intervals}
use Rattle.fz_strength.specs.Equations.{partnered_sum}
use Rattle.fz_strength.specs.Cumulatives.{cumulative}
use Rattle.fz_strength.specs.Inverse.{inverse}
use Rattle.fz_strength.specs.Counts.{global_cardinality}
use Rattle.fz_strength.specs.Others.{otherwise}

-- a variant for each shape
pub data Saying : Type 0 where
  Compare : (relation : Relation) (x y : Term) → Saying
  CompareIf : (relation : Relation) (x y r : Term) → Saying
  Member : (x : Term) (set : List (ℤ × ℤ)) → Saying
  MemberIf : (x : Term) (set : List (ℤ × ℤ)) (r : Term) → Saying
  Sum : (relation : Relation) (factors : List ℤ) (terms : List Term) (number : ℤ) → Saying
  SumIf : (relation : Relation) (factors : List ℤ) (terms : List Term) (number : ℤ) (r : Term) → Saying
  Says : (all : Bool) (clause : Clause) → Saying
  Equals : (equation : Equation) → Saying
  Odd : (terms : List Term) → Saying
  Select : (numbers : List ℤ) (index value : Term) → Saying
  SelectTerm : (terms : List Term) (index value : Term) → Saying
  Row : (terms : List Term) (table : List ℤ) → Saying
  Regular : (automaton : Automaton) (terms : List Term) → Saying
  Differ : (terms : List Term) → Saying
  DifferByBounds : (terms : List Term) → Saying
  SumByNumbers : (factors : List ℤ) (terms : List Term) (number : ℤ) → Saying
  Share : (starts durations usages : List Term) (bound : Term) → Saying
  Inverse : (firsts seconds : List Term) → Saying
  Count : (terms : List Term) (cover : List ℤ) (counts : List Term) → Saying
  Other : (shape : Shape) (arguments : List Argument) → Saying

-- What a constraint of a shape says: with one Boolean more, that this one is 1 exactly where that is so. A sum that is related to a
-- variable is one with the variable as a further term. What has no propagator of its own is of another kind.
abbrev pub said : Shape → List Argument → Saying
said (Rel relation) (One x ∷ One y ∷ []) = Compare relation x y
said (Rel relation) (One x ∷ One y ∷ One r ∷ []) = CompareIf relation x y r
said Dom (One x ∷ Set set ∷ []) = Member x set
said Dom (One x ∷ Set set ∷ One r ∷ []) = MemberIf x set r
said (Linear relation) (Numbers ks ∷ Terms ts ∷ One c ∷ []) = Sum relation (left_factors ks c) (left_terms ts c) (right_number c)
said (Linear relation) (Numbers ks ∷ Terms ts ∷ One (Num c) ∷ One r ∷ []) = SumIf relation ks ts c r
said shapes.Clause (Terms ps ∷ Terms ns ∷ []) = Says false (clause ps ns (Num (pos 1)))
said shapes.Clause (Terms ps ∷ Terms ns ∷ One r ∷ []) = Says false (clause ps ns r)
said Or (Terms ts ∷ One r ∷ []) = Says false (disjunction ts r)
said Or (One x ∷ One y ∷ One r ∷ []) = Says false (disjunction (x ∷ y ∷ []) r)
said And (Terms ts ∷ One r ∷ []) = Says true (conjunction ts r)
said And (One x ∷ One y ∷ One r ∷ []) = Says true (conjunction (x ∷ y ∷ []) r)
said Xor (Terms ts ∷ []) = Odd ts
said (Arithmetic operation) (One x ∷ One z ∷ []) = Equals (equation operation (x ∷ []) z)
said (Arithmetic operation) (One x ∷ One y ∷ One z ∷ []) = Equals (equation operation (x ∷ y ∷ []) z)
said (Arithmetic operation) (One z ∷ Terms xs ∷ []) = Equals (equation operation xs z)
said Element (One k ∷ Numbers xs ∷ One c ∷ []) = Select xs k c
said Element (One k ∷ Terms xs ∷ One c ∷ []) = SelectTerm xs k c
said Extensional (Terms xs ∷ Numbers table ∷ []) = Row xs table
said shapes.Regular (Terms xs ∷ One (Num states) ∷ One (Num symbols) ∷ Numbers next ∷ One (Num start) ∷ Set accepting ∷ []) =
    Regular (record { states = states; symbols = symbols; next = next; start = start; accepting = accepting }) xs
said Distinct (Terms xs ∷ []) = Differ xs
said Cumulative (Terms ss ∷ Terms dd ∷ Terms us ∷ One b ∷ []) = Share ss dd us b
said shapes.Inverse (Terms fs ∷ Terms gs ∷ []) = Inverse fs gs
said Counts (Terms xs ∷ Numbers cover ∷ Terms counts ∷ []) = Count xs cover counts
said shape arguments = Other shape arguments

-- a constraint says what its row says
abbrev pub saying_of : Constraint → Saying
saying_of c = said (shape_of c.name) c.arguments

-- what there is to know of it
abbrev pub meaning_of : Saying → Meaning
meaning_of (Compare relation x y) = comparison relation x y
meaning_of (CompareIf relation x y r) = reified_comparison relation x y r
meaning_of (Member x set) = membership x set
meaning_of (MemberIf x set r) = reified_membership x set r
meaning_of (Sum relation ks ts c) = linear relation ks ts c
meaning_of (SumIf relation ks ts c r) = reified_linear relation ks ts c r
meaning_of (Says all clause) = some_or_all all clause
meaning_of (Equals equation) = arithmetic equation
meaning_of (Odd ts) = parity ts
meaning_of (Select xs k c) = element xs k c
meaning_of (SelectTerm xs k c) = variable_element xs k c
meaning_of (Row xs table) = table_row xs table
meaning_of (Regular automaton xs) = regular automaton xs
meaning_of (Differ xs) = all_different xs
meaning_of (DifferByBounds xs) = hall_intervals xs
meaning_of (SumByNumbers ks ts c) = partnered_sum ks ts c
meaning_of (Share ss dd us b) = cumulative ss dd us b
meaning_of (Inverse fs gs) = inverse fs gs
meaning_of (Count xs cover counts) = global_cardinality xs cover counts
meaning_of (Other shape arguments) = otherwise shape arguments

-- an assignment makes it true
abbrev pub truth_of : Saying → List ℤ → Type 0
truth_of s a = (meaning_of s).truth a

-- the line where its propagator rests
abbrev pub line_of : Saying → List (List (ℤ × ℤ)) → Type 0
line_of s ds = (meaning_of s).line ds

-- its variables, with the changes that may break the line
abbrev pub waits_of : Saying → List Wait
waits_of s = (meaning_of s).waits

-- its terms, and those that it takes for 0 or 1
abbrev pub said_terms : Saying → List Term
said_terms s = (meaning_of s).terms

abbrev pub truths_of : Saying → List Term
truths_of s = (meaning_of s).truths

-- the class of its cost
abbrev pub cost_of : Saying → Cost
cost_of s = (meaning_of s).cost

-- of a constraint
abbrev pub Rests : Constraint → List (List (ℤ × ℤ)) → Type 0
Rests c ds = line_of (saying_of c) ds

abbrev pub waits : Constraint → List Wait
waits c = waits_of (saying_of c)
