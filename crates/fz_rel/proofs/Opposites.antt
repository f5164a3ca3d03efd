-- A relation and the one that is true exactly where it is false.
use Rattle.std.proofs.Common.{arith}
use Rattle.std.proofs.lemmas.Int.{ints}
use Rattle.fz_spec.specs.declared.term.Term.{Term}
use Rattle.fz_spec.specs.Constraints.{term_value}
use Rattle.fz_spec.specs.declared.shape.Relation.TheVariants.{Equal, NotEqual, AtMost, Below}
use Rattle.fz_prop.specs.Truths.{IsSame}
use Rattle.fz_sets.proofs.Numbers.{above_of_not, most_of_not}
use Rattle.fz_prop.proofs.Numbers.{same_of_not}
use Rattle.fz_rel.specs.Truths.{TruthOf, FalseOf, LineOf, AgainstOf}

pub against_apart : (x y : Term) → IsSame (TruthOf Equal x y) (FalseOf NotEqual x y) (LineOf Equal x y) (AgainstOf NotEqual x y)
against_apart x y = record { truth = λ a. ((λ same apart. apart same), same_of_not (term_value a x) (term_value a y)); line = λ ds h. h }

pub against_most : (x y : Term) → IsSame (TruthOf Below y x) (FalseOf AtMost x y) (LineOf Below y x) (AgainstOf AtMost x y)
against_most x y = record { truth = λ a. ((λ below most. omega (arith, ints, below, most)), above_of_not (term_value a x) (term_value a y)); line = λ ds h. h }

pub against_below : (x y : Term) → IsSame (TruthOf AtMost y x) (FalseOf Below x y) (LineOf AtMost y x) (AgainstOf Below x y)
against_below x y = record { truth = λ a. ((λ most below. omega (arith, ints, below, most)), most_of_not (term_value a x) (term_value a y)); line = λ ds h. h }
