-- A relation of two terms: when an assignment makes it true, and its line.
use Rattle.std.specs.Prelude.{ℤ, pos, ◌+ℤ◌, ◌≤ℤ◌, List, Bool, if◌then◌else◌}
use Rattle.fz_spec.specs.declared.term.Term.{Term}
use Rattle.fz_spec.specs.Constraints.{term_value}
use Rattle.fz_spec.specs.declared.shape.Relation.{Relation}
use Rattle.fz_spec.specs.declared.shape.Relation.TheVariants.{AtMost, Below}
use Rattle.fz_strength.specs.Domains.{term_set}
use Rattle.fz_spec.specs.Truth.{Relates}
use Rattle.fz_strength.specs.Relations.{RestsAs, RestsAgainst}
use Rattle.fz_prop.specs.declared.answer.Answer.{Answer}
use Rattle.fz_prop.specs.Answers.{IsAnswerOf}

abbrev pub TruthOf : Relation → Term → Term → List ℤ → Type 0
TruthOf relation x y a = Relates relation (term_value a x) (term_value a y)

abbrev pub LineOf : Relation → Term → Term → List (List (ℤ × ℤ)) → Type 0
LineOf relation x y ds = RestsAs relation (term_set ds x) (term_set ds y)

-- when an assignment makes it false, and the line of that
abbrev pub FalseOf : Relation → Term → Term → List ℤ → Type 0
FalseOf relation x y a = TruthOf relation x y a → ⊥

abbrev pub AgainstOf : Relation → Term → Term → List (List (ℤ × ℤ)) → Type 0
AgainstOf relation x y ds = RestsAgainst relation (term_set ds x) (term_set ds y)

-- the answer of a run of a relation's propagator
abbrev pub IsAnswerAs : Relation → Term → Term → Answer → List (List (ℤ × ℤ)) → List (List (ℤ × ℤ)) → Type 0
IsAnswerAs relation x y answer ds es = IsAnswerOf answer (TruthOf relation x y) (LineOf relation x y) ds es

-- ---- orders

abbrev pub order_of : Bool → Relation
order_of strict = if strict then Below else AtMost

-- so much is between two numbers in order
abbrev pub gap_of : Bool → ℤ
gap_of strict = if strict then pos 1 else pos 0

abbrev pub IsOrdered : Bool → ℤ → ℤ → Type 0
IsOrdered strict x y = (x +ℤ gap_of strict) ≤ℤ y
