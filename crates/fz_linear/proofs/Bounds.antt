-- The answers of the propagators of orders and equations.
use Rattle.std.proofs.Common.{◌≡◌, List, [], ◌∷◌, refl, sym, subst, ◌∙◌, arith, length, false}
use Rattle.std.specs.Prelude.{ℤ, pos, negsuc, neg_ℤ, ◌-ℤ◌, ◌≤ℤ◌, ◌<ℤ◌}
use Rattle.std.proofs.lemmas.Int.{ints}
use Rattle.fz_spec.specs.declared.term.Term.{Term}
use Rattle.fz_spec.specs.Constraints.{term_values}
use Rattle.fz_spec.specs.declared.shape.Relation.TheVariants.{Equal, AtMost}
use Rattle.fz_strength.specs.Domains.{term_set, AreDomains, IsNarrower}
use Rattle.fz_strength.specs.Sums.{least_product, greatest_product, least_sum, greatest_sum, AreNear, RestsAtMost, negated}
use Rattle.fz_strength.specs.Events.{AllFixed}
use Rattle.fz_strength.proofs.SumLaws.{neg_sum}
use Rattle.fz_prop.specs.declared.answer.Answer.TheVariants.{Fix, Subsumed, Failed}
use Rattle.fz_prop.specs.Answers.{IsCorrectOf}
use Rattle.fz_prop.specs.Stores.{Stored}
use Rattle.fz_linear.specs.Terms.{AreTermsOf}
use Rattle.fz_linear.specs.Passes.{KeepsNear, IsPassed, KeepsBetween, ArePassed}
use Rattle.fz_linear.specs.Sums.{SumTruth, IsAnswerSum}
use Rattle.fz_linear.proofs.Slacks.{terms_of, sum_above, sum_below, sums_rise, greatest_sum_falls, least_sum_negated, greatest_sum_negated, near_all}
use Rattle.fz_sets.specs.Sets.{single}

-- ---- orders

pub too_high : (ks : List ℤ) (ts : List Term) (c least : ℤ) (r s : Stored) → AreDomains r.doms → AreTermsOf (length r.doms) ts → least ≡ least_sum r.doms ks ts → c <ℤ least
    → IsAnswerSum AtMost ks ts c Failed r.doms s.doms
too_high ks ts c least r s domains are is above = λ a within holds.
    let low = sum_above ks ts r.doms a domains are within in omega (arith, ints, is, above, low, holds)

rests_for_good : (ks : List ℤ) (ts : List Term) (c : ℤ) (ds es : List (List (ℤ × ℤ))) → AreDomains ds → AreDomains es → AreTermsOf (length ds) ts → IsNarrower ds es
    → greatest_sum ds ks ts ≤ℤ c → RestsAtMost es ks ts c
rests_for_good ks ts c ds es domains now are narrower below =
    let still = terms_of (length ds) (length es) ts (sym narrower.size) are in
    let falls = greatest_sum_falls ks ts ds es domains now are narrower in
    let rise = sums_rise ks ts es now still in
    record {
      reached = omega (arith, ints, below, falls, rise);
      near = near_all ks ts es (c -ℤ least_sum es ks ts) now still (omega (arith, ints, below, falls));
    }

pub low_enough : (ks : List ℤ) (ts : List Term) (c greatest : ℤ) (r : Stored) → AreDomains r.doms → AreTermsOf (length r.doms) ts → greatest ≡ greatest_sum r.doms ks ts → greatest ≤ℤ c
    → IsAnswerSum AtMost ks ts c Subsumed r.doms r.doms
low_enough ks ts c greatest r domains are is below = (
  (λ a within. let high = sum_below ks ts r.doms a domains are within in omega (arith, ints, is, below, high)),
  (λ es now narrower. rests_for_good ks ts c r.doms es domains now are narrower (omega (arith, ints, is, below))),
)

pub at_most_correct : (ks : List ℤ) (ts : List Term) (c least slack : ℤ) (r s : Stored) → least ≡ least_sum r.doms ks ts → slack ≡ (c -ℤ least)
    → KeepsNear ks ts slack r.doms s.doms → IsCorrectOf (SumTruth AtMost ks ts c) r.doms s.doms
at_most_correct ks ts c least slack r s is gap kept = λ a holds within. kept a within (omega (arith, ints, is, gap, holds))

pub at_most_rests : (ks : List ℤ) (ts : List Term) (c least slack : ℤ) (r s : Stored) → least ≡ least_sum r.doms ks ts → least ≤ℤ c → slack ≡ (c -ℤ least)
    → IsPassed false ks ts slack r s → IsAnswerSum AtMost ks ts c Fix r.doms s.doms
at_most_rests ks ts c least slack r s is reached gap passed =
    let slack_is : slack ≡ (c -ℤ least_sum r.doms ks ts) = omega (arith, ints, is, gap) in
    subst (λ (t : Stored). RestsAtMost t.doms ks ts c) (sym passed.0) (record {
      reached = omega (arith, ints, is, reached);
      near = subst (λ (z : ℤ). AreNear r.doms z ks ts) slack_is passed.1;
    })

-- ---- where all terms are fixed the ends are the same

product_fixed : (k x : ℤ) → greatest_product k (single x) ≡ least_product k (single x)
product_fixed (pos n) x = refl
product_fixed (negsuc n) x = refl

pub sum_fixed : (ks : List ℤ) (ts : List Term) (ds : List (List (ℤ × ℤ))) → AllFixed ds ts → greatest_sum ds ks ts ≡ least_sum ds ks ts
sum_fixed [] ts ds fixed = refl
sum_fixed (k ∷ ks) [] ds fixed = refl
sum_fixed (k ∷ ks) (t ∷ ts) ds fixed =
    let only = fixed.0.1 in
    let here : greatest_product k (term_set ds t) ≡ least_product k (term_set ds t) = rw only (product_fixed k fixed.0.0) in
    let rest = sum_fixed ks ts ds fixed.1 in
    omega (arith, ints, here, rest)

pub not_fixed : (ks : List ℤ) (ts : List Term) (c least greatest : ℤ) (ds : List (List (ℤ × ℤ))) → least ≡ least_sum ds ks ts → greatest ≡ greatest_sum ds ks ts
    → least ≤ℤ c → c <ℤ greatest → AllFixed ds ts → ⊥
not_fixed ks ts c least greatest ds low high reached short fixed = let same = sum_fixed ks ts ds fixed in omega (arith, ints, low, high, reached, short, same)

-- ---- equations

pub over : (ks : List ℤ) (ts : List Term) (c least : ℤ) (r s : Stored) → AreDomains r.doms → AreTermsOf (length r.doms) ts → least ≡ least_sum r.doms ks ts → c <ℤ least
    → IsAnswerSum Equal ks ts c Failed r.doms s.doms
over ks ts c least r s domains are is above = λ a within holds.
    let low = sum_above ks ts r.doms a domains are within in omega (arith, ints, is, above, low, holds)

pub under : (ks : List ℤ) (ts : List Term) (c greatest : ℤ) (r s : Stored) → AreDomains r.doms → AreTermsOf (length r.doms) ts → greatest ≡ greatest_sum r.doms ks ts → greatest <ℤ c
    → IsAnswerSum Equal ks ts c Failed r.doms s.doms
under ks ts c greatest r s domains are is below = λ a within holds.
    let high = sum_below ks ts r.doms a domains are within in omega (arith, ints, is, below, high, holds)

pub one_sum : (ks : List ℤ) (ts : List Term) (c least greatest : ℤ) (r : Stored) → AreDomains r.doms → AreTermsOf (length r.doms) ts → least ≡ least_sum r.doms ks ts
    → greatest ≡ greatest_sum r.doms ks ts → least ≤ℤ c → c ≤ℤ greatest → least ≡ greatest → IsAnswerSum Equal ks ts c Subsumed r.doms r.doms
one_sum ks ts c least greatest r domains are low high reached short same = (
  (λ a within.
      let above = sum_above ks ts r.doms a domains are within in
      let below = sum_below ks ts r.doms a domains are within in
      omega (arith, ints, low, high, reached, short, same, above, below)),
  (λ es now narrower.
      let turned = greatest_sum_negated ks ts r.doms in (
        rests_for_good ks ts c r.doms es domains now are narrower (omega (arith, ints, low, high, reached, short, same)),
        rests_for_good (negated ks) ts (neg_ℤ c) r.doms es domains now are narrower (omega (arith, ints, low, high, reached, short, same, turned)),
      )),
)

pub equal_correct : (ks : List ℤ) (ts : List Term) (c least greatest above below : ℤ) (r s : Stored) → least ≡ least_sum r.doms ks ts → greatest ≡ greatest_sum r.doms ks ts
    → above ≡ (c -ℤ least) → below ≡ (greatest -ℤ c) → KeepsBetween ks ts above below r.doms s.doms → IsCorrectOf (SumTruth Equal ks ts c) r.doms s.doms
equal_correct ks ts c least greatest above below r s low high gap_above gap_below kept = λ a holds within.
    let turned = neg_sum ks (term_values a ts) in
    let ends = least_sum_negated ks ts r.doms in
    kept a within (omega (arith, ints, low, gap_above, holds)) (omega (arith, ints, high, gap_below, holds, turned, ends))

pub equal_rests : (ks : List ℤ) (ts : List Term) (c least greatest above below : ℤ) (r s : Stored) → least ≡ least_sum r.doms ks ts → greatest ≡ greatest_sum r.doms ks ts
    → least ≤ℤ c → c ≤ℤ greatest → above ≡ (c -ℤ least) → below ≡ (greatest -ℤ c) → ArePassed false ks ts above below r s → IsAnswerSum Equal ks ts c Fix r.doms s.doms
equal_rests ks ts c least greatest above below r s low high reached short gap_above gap_below passed =
    let ends = least_sum_negated ks ts r.doms in
    let above_is : above ≡ (c -ℤ least_sum r.doms ks ts) = omega (arith, ints, low, gap_above) in
    let below_is : below ≡ (neg_ℤ c -ℤ least_sum r.doms (negated ks) ts) = omega (arith, ints, high, gap_below, ends) in
    subst (λ (t : Stored). RestsAtMost t.doms ks ts c × RestsAtMost t.doms (negated ks) ts (neg_ℤ c)) (sym passed.0) (
      record { reached = omega (arith, ints, low, reached); near = subst (λ (z : ℤ). AreNear r.doms z ks ts) above_is passed.1 },
      record { reached = omega (arith, ints, high, short, ends); near = subst (λ (z : ℤ). AreNear r.doms z (negated ks) ts) below_is passed.2 },
    )

pub not_one : (ks : List ℤ) (ts : List Term) (least greatest : ℤ) (ds : List (List (ℤ × ℤ))) → least ≡ least_sum ds ks ts → greatest ≡ greatest_sum ds ks ts
    → (least ≡ greatest → ⊥) → AllFixed ds ts → ⊥
not_one ks ts least greatest ds low high apart fixed = apart (low ∙ (sym (sum_fixed ks ts ds fixed) ∙ sym high))
