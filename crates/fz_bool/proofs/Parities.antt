-- What the propagator of a parity narrows by is what it says.
use Rattle.std.proofs.Common.{◌≡◌, ℕ, ◌+◌, ◌%◌, List, [], ◌∷◌, refl, sym, ap, ◌∙◌, length, arith}
use Rattle.std.specs.Prelude.{ℤ, Bool, true, false, ◌↔◌, count_by, cond, Result, IfOk}
use Rattle.std.specs.List.{AllByRecursion}
use Rattle.std.proofs.lemmas.List.Sums.{sum_by-cons}
use Rattle.std.proofs.lemmas.Result.{IfOk-weaker}
use Rattle.fz_spec.specs.declared.term.Term.{Term}
use Rattle.fz_spec.specs.Constraints.{term_values}
use Rattle.fz_spec.specs.Truth.{is_one}
use Rattle.fz_strength.specs.Promises.{IsTruth, Suits}
use Rattle.fz_strength.specs.Sayings.{Odd, truth_of, line_of}
use Rattle.fz_strength.proofs.Clauses.{all_with}
use Rattle.fz_prop.specs.declared.answer.Answer.{Answer}
use Rattle.fz_prop.specs.Answers.{IsAnswerOf, IsCorrectOf, Narrows}
use Rattle.fz_strength.specs.Domains.{IsTermOf}
use Rattle.fz_prop.specs.Stores.{Stored, Shrinks}
use Rattle.fz_prop.proofs.Answering.{IsSame, same_answer, same_correct}
use Rattle.fz_bool.specs.Parity.{flip, is_odd, OddTruth, OddLine, AreBooleansOf}

pub booleans_of : (ts : List Term) (ds : List (List (ℤ × ℤ))) → AllByRecursion (IsTermOf (length ds)) ts → Suits (Odd ts) ds → AreBooleansOf ds ts
booleans_of ts ds terms suits = all_with (IsTermOf (length ds)) (IsTruth ds) (λ (t : Term). IsTermOf (length ds) t × IsTruth ds t) ts (λ t term truth. (term, truth)) terms suits

abbrev pub bit : Bool → ℕ
bit b = cond b 1 0

one_more : (b odd : Bool) (n : ℕ) → n % 2 ≡ bit odd → (bit b + n) % 2 ≡ bit (flip b odd)
one_more false odd n e = omega (arith, e)
one_more true false n e = omega (arith, e)
one_more true true n e = omega (arith, e)

pub odd_count : (xs : List ℤ) → count_by is_one xs % 2 ≡ bit (is_odd xs)
odd_count [] = refl
odd_count (x ∷ xs) = ap (λ (n : ℕ). n % 2) (sum_by-cons (λ y. bit (is_one y)) x xs) ∙ one_more (is_one x) (is_odd xs) (count_by is_one xs) (odd_count xs)

pub by_bit : (b : Bool) → bit b ≡ 1 → b ≡ true
by_bit true e = refl
by_bit false e = absurd (cc (e))

list_truth : (xs : List ℤ) → (is_odd xs ≡ true) ↔ (count_by is_one xs % 2 ≡ 1)
list_truth xs = ((λ odd. odd_count xs ∙ ap bit odd), (λ one. by_bit (is_odd xs) (sym (odd_count xs) ∙ one)))

said_same : (ts : List Term) → IsSame (OddTruth ts true) (truth_of (Odd ts)) (OddLine ts true) (line_of (Odd ts))
said_same ts = record {
  truth = λ a. list_truth (term_values a ts);
  line = λ ds line i others a within. (list_truth (term_values a ts)).0 (line i others a within);
}

pub odd_narrowed : {E : Type 0} (ts : List Term) (result : Result Answer E) (s t : Stored) → Shrinks s t → IsCorrectOf (OddTruth ts true) s.doms t.doms
    → IfOk result (λ (a : Answer). IsAnswerOf a (OddTruth ts true) (OddLine ts true) s.doms t.doms) → Narrows (truth_of (Odd ts)) (line_of (Odd ts)) result s t
odd_narrowed ts result s t shrinks correct answer = record {
  shrinks = shrinks;
  correct = same_correct (OddTruth ts true) (truth_of (Odd ts)) (OddLine ts true) (line_of (Odd ts)) s.doms t.doms (said_same ts) correct;
  answer = IfOk-weaker result (λ (a : Answer). IsAnswerOf a (OddTruth ts true) (OddLine ts true) s.doms t.doms) (λ (a : Answer). IsAnswerOf a (truth_of (Odd ts)) (line_of (Odd ts)) s.doms t.doms)
      (λ a h. same_answer a (OddTruth ts true) (truth_of (Odd ts)) (OddLine ts true) (line_of (Odd ts)) s.doms t.doms (said_same ts) h) answer;
}
