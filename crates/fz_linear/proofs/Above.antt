-- The answers of the propagator of sums above a number: the negated sum is at most the number's negation less 1.
use Rattle.std.proofs.Common.{◌≡◌, List, arith, length, false}
use Rattle.std.specs.Prelude.{ℤ, pos, neg_ℤ, ◌+ℤ◌, ◌-ℤ◌, ◌≤ℤ◌, ◌<ℤ◌}
use Rattle.std.proofs.lemmas.Int.{ints}
use Rattle.fz_spec.specs.declared.term.Term.{Term}
use Rattle.fz_spec.specs.Constraints.{term_values}
use Rattle.fz_spec.specs.Truth.{weighted_sum}
use Rattle.fz_spec.specs.declared.shape.Relation.TheVariants.{Equal, NotEqual, AtMost}
use Rattle.fz_strength.specs.Domains.{AreDomains}
use Rattle.fz_strength.specs.Sums.{least_sum, greatest_sum, negated}
use Rattle.fz_strength.proofs.SumLaws.{neg_sum}
use Rattle.fz_prop.specs.declared.answer.Answer.{Answer}
use Rattle.fz_prop.specs.declared.answer.Answer.TheVariants.{Fix, Subsumed, Failed}
use Rattle.fz_prop.specs.Answers.{IsCorrectOf}
use Rattle.fz_prop.specs.Stores.{Stored}
use Rattle.fz_prop.specs.Truths.{IsSame}
use Rattle.fz_prop.proofs.Answering.{same_answer, same_correct}
use Rattle.fz_sets.proofs.Numbers.{above_of_not}
use Rattle.fz_prop.proofs.Numbers.{same_of_not}
use Rattle.fz_linear.specs.Terms.{AreTermsOf}
use Rattle.fz_linear.specs.Passes.{KeepsNear, IsPassed}
use Rattle.fz_linear.specs.Sums.{SumTruth, SumLine, SumFalse, AgainstLine, IsAnswerSum, IsAnswerAgainst}
use Rattle.fz_linear.proofs.Slacks.{least_sum_negated, greatest_sum_negated}
use Rattle.fz_linear.proofs.Bounds.{too_high, low_enough, at_most_correct, at_most_rests}

-- ---- relations and their opposites

pub against_apart : (ks : List ℤ) (ts : List Term) (c : ℤ) → IsSame (SumTruth Equal ks ts c) (SumFalse NotEqual ks ts c) (SumLine Equal ks ts c) (AgainstLine NotEqual ks ts c)
against_apart ks ts c = record { truth = λ a. ((λ same apart. apart same), same_of_not (weighted_sum ks (term_values a ts)) c); line = λ ds h. h }

against_most : (ks : List ℤ) (ts : List Term) (c : ℤ)
    → IsSame (SumTruth AtMost (negated ks) ts (neg_ℤ c -ℤ pos 1)) (SumFalse AtMost ks ts c) (SumLine AtMost (negated ks) ts (neg_ℤ c -ℤ pos 1)) (AgainstLine AtMost ks ts c)
against_most ks ts c = record {
  truth = λ a. (let turned = neg_sum ks (term_values a ts) in (
    (λ low high. omega (arith, ints, turned, low, high)),
    (λ not. let above = above_of_not (weighted_sum ks (term_values a ts)) c not in omega (arith, ints, turned, above)),
  ));
  line = λ ds h. h;
}

above_is : (ks : List ℤ) (ts : List Term) (c : ℤ) (answer : Answer) (r s : Stored) → IsAnswerSum AtMost (negated ks) ts (neg_ℤ c -ℤ pos 1) answer r.doms s.doms
    → IsAnswerAgainst AtMost ks ts c answer r.doms s.doms
above_is ks ts c answer r s h =
    same_answer answer (SumTruth AtMost (negated ks) ts (neg_ℤ c -ℤ pos 1)) (SumFalse AtMost ks ts c) (SumLine AtMost (negated ks) ts (neg_ℤ c -ℤ pos 1)) (AgainstLine AtMost ks ts c)
    r.doms s.doms (against_most ks ts c) h

-- ---- the answers, where the sum is to be at least a bound, the number and 1

pub too_low : (ks : List ℤ) (ts : List Term) (c bound greatest : ℤ) (r s : Stored) → AreDomains r.doms → AreTermsOf (length r.doms) ts → bound ≡ (c +ℤ pos 1)
    → greatest ≡ greatest_sum r.doms ks ts → greatest <ℤ bound → IsAnswerAgainst AtMost ks ts c Failed r.doms s.doms
too_low ks ts c bound greatest r s domains are bound_is is below =
    let turned = least_sum_negated ks ts r.doms in
    above_is ks ts c Failed r s
    (too_high (negated ks) ts (neg_ℤ c -ℤ pos 1) (neg_ℤ greatest) r s domains are (omega (arith, ints, turned, is)) (omega (arith, ints, bound_is, below)))

pub high_enough : (ks : List ℤ) (ts : List Term) (c bound least : ℤ) (r : Stored) → AreDomains r.doms → AreTermsOf (length r.doms) ts → bound ≡ (c +ℤ pos 1)
    → least ≡ least_sum r.doms ks ts → bound ≤ℤ least → IsAnswerAgainst AtMost ks ts c Subsumed r.doms r.doms
high_enough ks ts c bound least r domains are bound_is is above =
    let turned = greatest_sum_negated ks ts r.doms in
    above_is ks ts c Subsumed r r
    (low_enough (negated ks) ts (neg_ℤ c -ℤ pos 1) (neg_ℤ least) r domains are (omega (arith, ints, turned, is)) (omega (arith, ints, bound_is, above)))

pub above_correct : (ks : List ℤ) (ts : List Term) (c bound greatest slack : ℤ) (r s : Stored) → bound ≡ (c +ℤ pos 1) → greatest ≡ greatest_sum r.doms ks ts → slack ≡ (greatest -ℤ bound)
    → KeepsNear (negated ks) ts slack r.doms s.doms → IsCorrectOf (SumFalse AtMost ks ts c) r.doms s.doms
above_correct ks ts c bound greatest slack r s bound_is is gap kept =
    let turned = least_sum_negated ks ts r.doms in
    same_correct (SumTruth AtMost (negated ks) ts (neg_ℤ c -ℤ pos 1)) (SumFalse AtMost ks ts c) (SumLine AtMost (negated ks) ts (neg_ℤ c -ℤ pos 1)) (AgainstLine AtMost ks ts c)
    r.doms s.doms (against_most ks ts c)
    (at_most_correct (negated ks) ts (neg_ℤ c -ℤ pos 1) (neg_ℤ greatest) slack r s (omega (arith, ints, turned, is)) (omega (arith, ints, bound_is, gap)) kept)

pub above_rests : (ks : List ℤ) (ts : List Term) (c bound greatest slack : ℤ) (r s : Stored) → bound ≡ (c +ℤ pos 1) → greatest ≡ greatest_sum r.doms ks ts → bound ≤ℤ greatest
    → slack ≡ (greatest -ℤ bound) → IsPassed false (negated ks) ts slack r s → IsAnswerAgainst AtMost ks ts c Fix r.doms s.doms
above_rests ks ts c bound greatest slack r s bound_is is reached gap passed =
    let turned = least_sum_negated ks ts r.doms in
    above_is ks ts c Fix r s
    (at_most_rests (negated ks) ts (neg_ℤ c -ℤ pos 1) (neg_ℤ greatest) slack r s (omega (arith, ints, turned, is)) (omega (arith, ints, bound_is, reached)) (omega (arith, ints, bound_is, gap)) passed)
