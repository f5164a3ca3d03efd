-- A linear constraint of a relation: when an assignment makes it true, and the answer of a run of its propagator; and the same of
-- the constraint that is true exactly where this one is false.
use Rattle.std.specs.Prelude.{ℤ, List}
use Rattle.fz_spec.specs.declared.term.Term.{Term}
use Rattle.fz_spec.specs.Constraints.{term_values}
use Rattle.fz_spec.specs.Truth.{weighted_sum, Relates}
use Rattle.fz_spec.specs.declared.shape.Relation.{Relation}
use Rattle.fz_strength.specs.Sums.{RestsSum}
use Rattle.fz_strength.specs.ReifiedSums.{RestsSumAgainst}
use Rattle.fz_prop.specs.declared.answer.Answer.{Answer}
use Rattle.fz_prop.specs.Answers.{IsAnswerOf}

abbrev pub SumTruth : Relation → List ℤ → List Term → ℤ → List ℤ → Type 0
SumTruth relation ks ts c a = Relates relation (weighted_sum ks (term_values a ts)) c

abbrev pub SumLine : Relation → List ℤ → List Term → ℤ → List (List (ℤ × ℤ)) → Type 0
SumLine relation ks ts c ds = RestsSum relation ds ks ts c

abbrev pub IsAnswerSum : Relation → List ℤ → List Term → ℤ → Answer → List (List (ℤ × ℤ)) → List (List (ℤ × ℤ)) → Type 0
IsAnswerSum relation ks ts c answer ds es = IsAnswerOf answer (SumTruth relation ks ts c) (SumLine relation ks ts c) ds es

abbrev pub SumFalse : Relation → List ℤ → List Term → ℤ → List ℤ → Type 0
SumFalse relation ks ts c a = SumTruth relation ks ts c a → ⊥

abbrev pub AgainstLine : Relation → List ℤ → List Term → ℤ → List (List (ℤ × ℤ)) → Type 0
AgainstLine relation ks ts c ds = RestsSumAgainst relation ds ks ts c

abbrev pub IsAnswerAgainst : Relation → List ℤ → List Term → ℤ → Answer → List (List (ℤ × ℤ)) → List (List (ℤ × ℤ)) → Type 0
IsAnswerAgainst relation ks ts c answer ds es = IsAnswerOf answer (SumFalse relation ks ts c) (AgainstLine relation ks ts c) ds es
