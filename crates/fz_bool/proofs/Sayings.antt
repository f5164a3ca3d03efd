-- What the propagator of a clause narrows by is what it says.
use Rattle.std.proofs.Common.{List, length, inl, inr}
use Rattle.std.specs.Prelude.{ℤ, Bool, true, false, ◌↔◌, Result, IfOk}
use Rattle.std.specs.List.{AllByRecursion}
use Rattle.std.proofs.lemmas.Result.{IfOk-weaker}
use Rattle.fz_sets.proofs.Numbers.{same_or_not}
use Rattle.fz_spec.specs.Constraints.{term_value}
use Rattle.fz_spec.specs.Truth.{SomeByRecursion}
use Rattle.fz_strength.specs.declared.literal.Literal.{Literal}
use Rattle.fz_strength.specs.Clauses.{Clause, AllTruth, MakesTrue, MakesFalse, true_number, clause_terms}
use Rattle.fz_strength.specs.Domains.{AreDomains, Within, IsTermOf}
use Rattle.fz_strength.specs.Promises.{IsTruth, Suits}
use Rattle.fz_strength.specs.Sayings.{Says, truth_of, line_of}
use Rattle.fz_strength.proofs.Clauses.{some_or_none, apart, all_with, all_unmap}
use Rattle.fz_prop.specs.declared.answer.Answer.{Answer}
use Rattle.fz_prop.specs.Answers.{IsAnswerOf, IsCorrectOf, Narrows}
use Rattle.fz_prop.specs.Stores.{Stored, Shrinks}
use Rattle.fz_bool.specs.Clausal.{TruthOf, LineOf}
use Rattle.fz_bool.specs.Looks.{IsLiteralOf, AreLiteralsOf}
use Rattle.fz_bool.proofs.Within.{IsSameWithin, same_answer, same_correct, made_false, none_true, all_or_some}

abbrev parts : List Literal → Literal → Clause
parts ls r = record { literals = ls; result = r }

-- ---- its literals

pub literals_of : (all : Bool) (ls : List Literal) (r : Literal) (ds : List (List (ℤ × ℤ))) → AllByRecursion (IsTermOf (length ds)) (clause_terms (parts ls r)) → Suits (Says all (parts ls r)) ds → AreLiteralsOf ds ls
literals_of all ls r ds terms suits =
    all_with (λ (l : Literal). IsTermOf (length ds) l.term) (λ (l : Literal). IsTruth ds l.term) (IsLiteralOf ds) ls (λ l term truth. (term, truth))
    (all_unmap (IsTermOf (length ds)) (λ (l : Literal). l.term) ls terms.1) (all_unmap (IsTruth ds) (λ (l : Literal). l.term) ls suits.1)

pub result_of : (all : Bool) (ls : List Literal) (r : Literal) (ds : List (List (ℤ × ℤ))) → AllByRecursion (IsTermOf (length ds)) (clause_terms (parts ls r)) → Suits (Says all (parts ls r)) ds → IsLiteralOf ds r
result_of all ls r ds terms suits = (terms.0, suits.0)

-- ---- its truth

either_truth : (ls : List Literal) (r : Literal) (ds : List (List (ℤ × ℤ))) (a : List ℤ) → AreLiteralsOf ds ls → IsLiteralOf ds r → Within ds a → TruthOf ls r a ↔ AllTruth (parts ls r) a
either_truth ls r ds a are is within =
    let none : AllByRecursion (λ (l : Literal). MakesTrue a l → ⊥) ls → AllByRecursion (MakesFalse a) ls =
    λ each. all_with (IsLiteralOf ds) (λ (l : Literal). MakesTrue a l → ⊥) (MakesFalse a) ls (λ l of not. made_false ds l a of within not) are each in
    let clash : AllByRecursion (MakesFalse a) ls → SomeByRecursion (MakesTrue a) ls → ⊥ = λ all some. none_true (MakesFalse a) (MakesTrue a) ls (λ l false true. apart l (term_value a l.term) true false) all some in (
      (λ truth. (
        (λ fails. none (all_or_some (MakesTrue a) ls (λ some. apart r (term_value a r.term) (truth.1 some) fails))),
        (λ all. made_false ds r a is within (λ holds. clash all (truth.0 holds))),
      )),
      (λ truth. (
        (λ holds. elim (some_or_none a ls) [ inl some ↦ some | inr without ↦ absurd (apart r (term_value a r.term) holds (truth.1 (none without))) ]),
        (λ some. elim (same_or_not (term_value a r.term) (true_number r)) [ inl holds ↦ holds | inr not ↦ absurd (clash (truth.0 (made_false ds r a is within not)) some) ]),
      )),
    )

said_same : (all : Bool) (ls : List Literal) (r : Literal) (ds : List (List (ℤ × ℤ))) → AreLiteralsOf ds ls → IsLiteralOf ds r
    → IsSameWithin (TruthOf ls r) (truth_of (Says all (parts ls r))) (LineOf ls r) (line_of (Says all (parts ls r))) ds
said_same false ls r ds are is = record { truth = λ a within. ((λ h. h), (λ h. h)); line = λ es domains narrower line. line }
said_same true ls r ds are is = record { truth = λ a within. either_truth ls r ds a are is within; line = λ es domains narrower line. line }

pub narrowed : {E : Type 0} (all : Bool) (ls : List Literal) (r : Literal) (result : Result Answer E) (s t : Stored) → AllByRecursion (IsTermOf (length s.doms)) (clause_terms (parts ls r)) → Suits (Says all (parts ls r)) s.doms
    → AreDomains t.doms → Shrinks s t → IsCorrectOf (TruthOf ls r) s.doms t.doms → IfOk result (λ (a : Answer). IsAnswerOf a (TruthOf ls r) (LineOf ls r) s.doms t.doms)
    → Narrows (truth_of (Says all (parts ls r))) (line_of (Says all (parts ls r))) result s t
narrowed all ls r result s t terms suits domains shrinks correct answer =
    let same = said_same all ls r s.doms (literals_of all ls r s.doms terms suits) (result_of all ls r s.doms terms suits) in
    record {
      shrinks = shrinks;
      correct = same_correct (TruthOf ls r) (truth_of (Says all (parts ls r))) (LineOf ls r) (line_of (Says all (parts ls r))) s.doms t.doms same correct;
      answer = IfOk-weaker result (λ (a : Answer). IsAnswerOf a (TruthOf ls r) (LineOf ls r) s.doms t.doms) (λ (a : Answer). IsAnswerOf a (truth_of (Says all (parts ls r))) (line_of (Says all (parts ls r))) s.doms t.doms)
          (λ a h. same_answer a (TruthOf ls r) (truth_of (Says all (parts ls r))) (LineOf ls r) (line_of (Says all (parts ls r))) s.doms t.doms same domains shrinks.narrower h) answer;
    }
