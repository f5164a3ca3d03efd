-- A sum and a Boolean, where that many terms at the front of the sum are fixed.
use Rattle.std.proofs.Common.{◌≡◌, ℕ, ◌+◌, List, refl, sym, subst, arith, length, drop}
use Rattle.std.specs.Prelude.{ℤ, pos, neg_ℤ, ◌+ℤ◌, ◌-ℤ◌, ◌≤ℤ◌, ◌↔◌}
use Rattle.std.proofs.lemmas.Int.{ints}
use Rattle.fz_spec.specs.declared.term.Term.{Term}
use Rattle.fz_spec.specs.Truth.{IsReified}
use Rattle.fz_spec.specs.Constraints.{term_value}
use Rattle.fz_spec.specs.declared.shape.Relation.{Relation}
use Rattle.fz_spec.specs.declared.shape.Relation.TheVariants.{Equal, NotEqual, AtMost, Below}
use Rattle.fz_strength.specs.Domains.{AreDomains, Within, IsNarrower}
use Rattle.fz_strength.specs.Sums.{RestsAtMost, negated}
use Rattle.fz_strength.specs.ReifiedSums.{IsSumShown, IsSumRefuted}
use Rattle.fz_strength.proofs.Terms.{within_before}
use Rattle.fz_prop.specs.declared.answer.Answer.{Answer}
use Rattle.fz_prop.specs.declared.answer.Answer.TheVariants.{Fix, NoFix, Subsumed, Failed}
use Rattle.fz_prop.specs.Answers.{IsAnswerOf, IsCorrectOf}
use Rattle.fz_prop.specs.Truths.{TruthWith, LineWith}
use Rattle.fz_prop.proofs.Twice.{narrower_twice}
use Rattle.fz_prop.specs.Told.{IsToldSum}
use Rattle.fz_prop.proofs.Lasting.{sum_lasts}
use Rattle.fz_linear.specs.Terms.{AreTermsOf}
use Rattle.fz_linear.specs.Sums.{SumTruth, AgainstLine}
use Rattle.fz_linear.proofs.Slacks.{drop_negated}
use Rattle.fz_linear.proofs.Told.{told_least, told_greatest, told_negated, told_at_most, told_line, told_truth, related, terms_narrower}
use Rattle.fz_linreif.specs.ReifiedLinears.{sum_sides}

shown_rest : (relation : Relation) (ks : List ℤ) (ts : List Term) (front : ℕ) (n c left : ℤ) (ds : List (List (ℤ × ℤ))) → left ≡ (c -ℤ n) → IsToldSum ks ts front n ds
    → IsSumShown relation ds ks ts c → IsSumShown relation ds (drop front ks) (drop front ts) left
shown_rest relation ks ts front n c left ds is told shown = λ s above below.
    let least = told_least ks ts front n ds told in
    let greatest = told_greatest ks ts front n ds told in
    (related relation (n +ℤ s) s n c left refl is).1 (shown (n +ℤ s) (omega (arith, ints, least, above)) (omega (arith, ints, greatest, below)))

refuted_rest : (relation : Relation) (ks : List ℤ) (ts : List Term) (front : ℕ) (n c left : ℤ) (ds : List (List (ℤ × ℤ))) → left ≡ (c -ℤ n) → IsToldSum ks ts front n ds
    → IsSumRefuted relation ds ks ts c → IsSumRefuted relation ds (drop front ks) (drop front ts) left
refuted_rest relation ks ts front n c left ds is told refuted = λ s above below holds.
    let least = told_least ks ts front n ds told in
    let greatest = told_greatest ks ts front n ds told in
    refuted (n +ℤ s) (omega (arith, ints, least, above)) (omega (arith, ints, greatest, below)) ((related relation (n +ℤ s) s n c left refl is).0 holds)

told_against : (relation : Relation) (ks : List ℤ) (ts : List Term) (front : ℕ) (n c left : ℤ) (ds : List (List (ℤ × ℤ))) → AreTermsOf (length ds) ts → left ≡ (c -ℤ n)
    → IsToldSum ks ts front n ds → AgainstLine relation (drop front ks) (drop front ts) left ds → AgainstLine relation ks ts c ds
told_against Equal ks ts front n c left ds are is told line = told_line NotEqual ks ts front n c left ds are is told line
told_against NotEqual ks ts front n c left ds are is told line = told_line Equal ks ts front n c left ds are is told line
told_against AtMost ks ts front n c left ds are is told line =
    told_at_most (negated ks) ts front (neg_ℤ n) (neg_ℤ c -ℤ pos 1) (neg_ℤ left -ℤ pos 1) ds (omega (arith, ints, is)) (told_negated ks ts front n (neg_ℤ n) ds refl told)
    (subst (λ (js : List ℤ). RestsAtMost ds js (drop front ts) (neg_ℤ left -ℤ pos 1)) (sym (drop_negated ks front)) line)
told_against Below ks ts front n c left ds are is told line = absurd line

told_lines : (relation : Relation) (ks : List ℤ) (ts : List Term) (front : ℕ) (n c left : ℤ) (r : Term) (ds : List (List (ℤ × ℤ))) → AreTermsOf (length ds) ts → left ≡ (c -ℤ n)
    → IsToldSum ks ts front n ds → LineWith (sum_sides relation (drop front ks) (drop front ts) left) r ds → LineWith (sum_sides relation ks ts c) r ds
told_lines relation ks ts front n c left r ds are is told line = record {
  one_if_shown = λ shown. line.one_if_shown (shown_rest relation ks ts front n c left ds is told shown);
  zero_if_refuted = λ refuted. line.zero_if_refuted (refuted_rest relation ks ts front n c left ds is told refuted);
  line_if_one = λ one. told_line relation ks ts front n c left ds are is told (line.line_if_one one);
  against_if_zero = λ zero. told_against relation ks ts front n c left ds are is told (line.against_if_zero zero);
}

told_with : (relation : Relation) (ks : List ℤ) (ts : List Term) (front : ℕ) (n c left : ℤ) (r : Term) (ds : List (List (ℤ × ℤ))) (a : List ℤ) → AreTermsOf (length ds) ts → left ≡ (c -ℤ n)
    → IsToldSum ks ts front n ds → Within ds a → TruthWith (SumTruth relation (drop front ks) (drop front ts) left) r a ↔ TruthWith (SumTruth relation ks ts c) r a
told_with relation ks ts front n c left r ds a are is told within =
    let same = told_truth relation ks ts front n c left ds a are is told within in (
      (λ h. ((λ one. same.0 (h.0 one)), (λ holds. h.1 (same.1 holds)))),
      (λ h. ((λ one. same.1 (h.0 one)), (λ holds. h.1 (same.0 holds)))),
    )

pub with_correct : (relation : Relation) (ks : List ℤ) (ts : List Term) (front : ℕ) (n c left : ℤ) (r : Term) (ds es : List (List (ℤ × ℤ))) → AreTermsOf (length ds) ts → left ≡ (c -ℤ n)
    → IsToldSum ks ts front n ds → IsCorrectOf (TruthWith (SumTruth relation (drop front ks) (drop front ts) left) r) ds es → IsCorrectOf (TruthWith (SumTruth relation ks ts c) r) ds es
with_correct relation ks ts front n c left r ds es are is told correct = λ a holds within. correct a ((told_with relation ks ts front n c left r ds a are is told within).1 holds) within

pub with_answer : (answer : Answer) (relation : Relation) (ks : List ℤ) (ts : List Term) (front : ℕ) (n c left : ℤ) (r : Term) (ds es : List (List (ℤ × ℤ))) → AreTermsOf (length ds) ts → left ≡ (c -ℤ n)
    → AreDomains es → IsNarrower ds es → IsToldSum ks ts front n ds
    → IsAnswerOf answer (TruthWith (SumTruth relation (drop front ks) (drop front ts) left) r) (LineWith (sum_sides relation (drop front ks) (drop front ts) left) r) ds es
    → IsAnswerOf answer (TruthWith (SumTruth relation ks ts c) r) (LineWith (sum_sides relation ks ts c) r) ds es
with_answer Fix relation ks ts front n c left r ds es are is domains narrower told h =
    told_lines relation ks ts front n c left r es (terms_narrower (length ds) (length es) ts narrower.size are) is (sum_lasts ks ts front n ds es domains narrower told) h
with_answer NoFix relation ks ts front n c left r ds es are is domains narrower told h = h
with_answer Subsumed relation ks ts front n c left r ds es are is domains narrower told h = (
  (λ a within. (told_with relation ks ts front n c left r ds a are is told (within_before ds es a narrower within)).0 (h.0 a within)),
  (λ fs filled less.
      let whole = narrower_twice ds es fs narrower less in
      told_lines relation ks ts front n c left r fs (terms_narrower (length ds) (length fs) ts whole.size are) is (sum_lasts ks ts front n ds fs filled whole told) (h.1 fs filled less)),
)
with_answer Failed relation ks ts front n c left r ds es are is domains narrower told h = λ a within holds. h a within ((told_with relation ks ts front n c left r ds a are is told within).1 holds)
