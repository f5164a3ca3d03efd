-- What the ends of a sum show, of all assignments and of narrower domains; and runs where they show nothing.
use Rattle.std.proofs.Common.{◌≡◌, List, refl, sym, subst, map, length, arith}
use Rattle.std.specs.Prelude.{ℤ, pos, ◌+ℤ◌, ◌≤ℤ◌, Bool, true, false}
use Rattle.std.proofs.lemmas.Int.{ints}
use Rattle.fz_dom.specs.Shape.{least}
use Rattle.fz_dom.specs.declared.change.Change.{Change}
use Rattle.fz_spec.specs.declared.term.Term.{Term}
use Rattle.fz_spec.specs.Constraints.{term_values}
use Rattle.fz_spec.specs.Truth.{weighted_sum}
use Rattle.fz_spec.specs.declared.shape.Relation.{Relation}
use Rattle.fz_spec.specs.declared.shape.Relation.TheVariants.{Equal, NotEqual, AtMost, Below}
use Rattle.fz_strength.specs.Domains.{term_set, AreDomains, Within, IsNarrower, IsTermOf}
use Rattle.fz_strength.specs.Events.{IsOnly}
use Rattle.fz_strength.specs.Promises.{IsTruth}
use Rattle.fz_strength.specs.Sums.{least_sum, greatest_sum}
use Rattle.fz_strength.specs.ReifiedSums.{IsSumShown, IsSumRefuted}
use Rattle.fz_strength.proofs.Terms.{within_before, least_within}
use Rattle.fz_prop.specs.declared.answer.Answer.{Answer}
use Rattle.fz_prop.specs.declared.answer.Answer.TheVariants.{Fix, NoFix, Subsumed, Failed}
use Rattle.fz_prop.specs.Answers.{IsAnswerOf, IsCorrectOf}
use Rattle.fz_prop.specs.Outcomes.{settled_by}
use Rattle.fz_prop.specs.Stores.{Stored, Shrinks, IsTermChange}
use Rattle.fz_prop.specs.Truths.{Sides, AreSides, IsSame, IsAbout, TruthWith, LineWith}
use Rattle.fz_prop.proofs.Answering.{same_answer}
use Rattle.fz_sets.proofs.Numbers.{above_of_not}
use Rattle.fz_prop.proofs.Numbers.{same_of_not}
use Rattle.fz_prop.proofs.Reifying.{one_correct, zero_correct, one_answer, zero_answer, shown_about, refuted_about}
use Rattle.fz_prop.proofs.Settling.{settled_answer, settled_correct}
use Rattle.fz_linear.specs.Terms.{AreTermsOf}
use Rattle.fz_linear.specs.Sums.{SumTruth, SumLine, SumFalse, AgainstLine, IsAnswerSum, IsAnswerAgainst}
use Rattle.fz_linear.proofs.Slacks.{terms_of, least_sum_negated, sum_above, sum_below, sums_rise, least_sum_rises, greatest_sum_falls}
use Rattle.fz_linear.proofs.Bounds.{low_enough, one_sum}
use Rattle.fz_linear.proofs.Above.{high_enough}
use Rattle.fz_linreif.specs.ReifiedLinears.{sum_sides, truth_number, SaidTruth, IsAnswerSaid}

-- ---- of all assignments

pub shown_true : (relation : Relation) (ks : List ℤ) (ts : List Term) (c : ℤ) (ds : List (List (ℤ × ℤ))) (a : List ℤ) → AreDomains ds → AreTermsOf (length ds) ts
    → IsSumShown relation ds ks ts c → Within ds a → SumTruth relation ks ts c a
shown_true relation ks ts c ds a domains are shown within = shown (weighted_sum ks (term_values a ts)) (sum_above ks ts ds a domains are within) (sum_below ks ts ds a domains are within)

pub refuted_false : (relation : Relation) (ks : List ℤ) (ts : List Term) (c : ℤ) (ds : List (List (ℤ × ℤ))) (a : List ℤ) → AreDomains ds → AreTermsOf (length ds) ts
    → IsSumRefuted relation ds ks ts c → Within ds a → SumFalse relation ks ts c a
refuted_false relation ks ts c ds a domains are refuted within = refuted (weighted_sum ks (term_values a ts)) (sum_above ks ts ds a domains are within) (sum_below ks ts ds a domains are within)

-- ---- of narrower domains

still_terms : (ds es : List (List (ℤ × ℤ))) (ts : List Term) → AreTermsOf (length ds) ts → IsNarrower ds es → AreTermsOf (length es) ts
still_terms ds es ts are narrower = terms_of (length ds) (length es) ts (sym narrower.size) are

shown_still : (relation : Relation) (ks : List ℤ) (ts : List Term) (c : ℤ) (ds es : List (List (ℤ × ℤ))) → AreDomains ds → AreDomains es → AreTermsOf (length ds) ts → IsNarrower ds es
    → IsSumShown relation ds ks ts c → IsSumShown relation es ks ts c
shown_still relation ks ts c ds es domains now are narrower shown = λ s above below.
    let rises = least_sum_rises ks ts ds es domains now are narrower in
    let falls = greatest_sum_falls ks ts ds es domains now are narrower in
    shown s (omega (arith, ints, above, rises)) (omega (arith, ints, below, falls))

refuted_still : (relation : Relation) (ks : List ℤ) (ts : List Term) (c : ℤ) (ds es : List (List (ℤ × ℤ))) → AreDomains ds → AreDomains es → AreTermsOf (length ds) ts → IsNarrower ds es
    → IsSumRefuted relation ds ks ts c → IsSumRefuted relation es ks ts c
refuted_still relation ks ts c ds es domains now are narrower refuted = λ s above below.
    let rises = least_sum_rises ks ts ds es domains now are narrower in
    let falls = greatest_sum_falls ks ts ds es domains now are narrower in
    refuted s (omega (arith, ints, above, rises)) (omega (arith, ints, below, falls))

not_both : (relation : Relation) (ks : List ℤ) (ts : List Term) (c : ℤ) (ds : List (List (ℤ × ℤ))) → AreDomains ds → AreTermsOf (length ds) ts
    → IsSumShown relation ds ks ts c → IsSumRefuted relation ds ks ts c → ⊥
not_both relation ks ts c ds domains are shown refuted =
    let low = least_sum ds ks ts in
    let rise = sums_rise ks ts ds domains are in
    let here : low ≤ℤ low = omega (arith, ints) in
    refuted low here rise (shown low here rise)

equal_lines : (ks : List ℤ) (ts : List Term) (c : ℤ) (r : Stored) (es : List (List (ℤ × ℤ))) → AreDomains r.doms → AreDomains es → AreTermsOf (length r.doms) ts → IsNarrower r.doms es
    → least_sum r.doms ks ts ≡ c → greatest_sum r.doms ks ts ≡ c → SumLine Equal ks ts c es
equal_lines ks ts c r es domains now are narrower low high =
    (one_sum ks ts c (least_sum r.doms ks ts) (greatest_sum r.doms ks ts) r domains are refl refl (omega (arith, ints, low)) (omega (arith, ints, high)) (omega (arith, ints, low, high))).1
    es now narrower

pub shown_line : (relation : Relation) (ks : List ℤ) (ts : List Term) (c : ℤ) (r : Stored) (es : List (List (ℤ × ℤ))) → (relation ≡ Below → ⊥) → AreDomains r.doms → AreDomains es
    → AreTermsOf (length r.doms) ts → IsNarrower r.doms es → IsSumShown relation r.doms ks ts c → SumLine relation ks ts c es
shown_line Equal ks ts c r es bounded domains now are narrower shown =
    let rise = sums_rise ks ts r.doms domains are in
    equal_lines ks ts c r es domains now are narrower (shown (least_sum r.doms ks ts) (omega (arith, ints)) rise) (shown (greatest_sum r.doms ks ts) rise (omega (arith, ints)))
shown_line NotEqual ks ts c r es bounded domains now are narrower shown = λ fixed a within.
    shown_true NotEqual ks ts c r.doms a domains are shown (within_before r.doms es a narrower within)
shown_line AtMost ks ts c r es bounded domains now are narrower shown =
    let rise = sums_rise ks ts r.doms domains are in
    (low_enough ks ts c (greatest_sum r.doms ks ts) r domains are refl (shown (greatest_sum r.doms ks ts) rise (omega (arith, ints)))).1 es now narrower
shown_line Below ks ts c r es bounded domains now are narrower shown = absurd (bounded refl)

pub refuted_line : (relation : Relation) (ks : List ℤ) (ts : List Term) (c : ℤ) (r : Stored) (es : List (List (ℤ × ℤ))) → (relation ≡ Below → ⊥) → AreDomains r.doms → AreDomains es
    → AreTermsOf (length r.doms) ts → IsNarrower r.doms es → IsSumRefuted relation r.doms ks ts c → AgainstLine relation ks ts c es
refuted_line Equal ks ts c r es bounded domains now are narrower refuted = λ fixed a within.
    refuted_false Equal ks ts c r.doms a domains are refuted (within_before r.doms es a narrower within)
refuted_line NotEqual ks ts c r es bounded domains now are narrower refuted =
    let low = least_sum r.doms ks ts in
    let high = greatest_sum r.doms ks ts in
    let rise = sums_rise ks ts r.doms domains are in
    equal_lines ks ts c r es domains now are narrower (same_of_not low c (refuted low (omega (arith, ints)) rise)) (same_of_not high c (refuted high rise (omega (arith, ints))))
refuted_line AtMost ks ts c r es bounded domains now are narrower refuted =
    let low = least_sum r.doms ks ts in
    let rise = sums_rise ks ts r.doms domains are in
    let above = above_of_not low c (refuted low (omega (arith, ints)) rise) in
    (high_enough ks ts c (c +ℤ pos 1) low r domains are refl refl (omega (arith, ints, above))).1 es now narrower
refuted_line Below ks ts c r es bounded domains now are narrower refuted = absurd (bounded refl)

-- ---- the sides, with what the ends don't show

abbrev pub strict_sides : Relation → List ℤ → List Term → ℤ → Sides
strict_sides relation ks ts c = record {
  shown = λ ds. IsSumShown relation ds ks ts c;
  refuted = λ ds. IsSumRefuted relation ds ks ts c;
  line = λ ds. SumLine relation ks ts c ds × (IsSumRefuted relation ds ks ts c → ⊥);
  against = λ ds. AgainstLine relation ks ts c ds × (IsSumShown relation ds ks ts c → ⊥);
}

are_sides : (relation : Relation) (ks : List ℤ) (ts : List Term) (c : ℤ) (ds : List (List (ℤ × ℤ))) → AreSides (strict_sides relation ks ts c) ds
are_sides relation ks ts c ds = record { one = λ es domains narrower line refuted. line.1 refuted; zero = λ es domains narrower line shown. line.1 shown }

plain : (relation : Relation) (ks : List ℤ) (ts : List Term) (c : ℤ) (b : Term)
    → IsSame (TruthWith (SumTruth relation ks ts c) b) (TruthWith (SumTruth relation ks ts c) b) (LineWith (strict_sides relation ks ts c) b) (LineWith (sum_sides relation ks ts c) b)
plain relation ks ts c b = record {
  truth = λ a. ((λ h. h), (λ h. h));
  line = λ ds h. record {
    one_if_shown = h.one_if_shown;
    zero_if_refuted = h.zero_if_refuted;
    line_if_one = λ one. (h.line_if_one one).0;
    against_if_zero = λ zero. (h.against_if_zero zero).0;
  };
}

plain_answer : (relation : Relation) (ks : List ℤ) (ts : List Term) (c : ℤ) (b : Term) (answer : Answer) (ds es : List (List (ℤ × ℤ)))
    → IsAnswerOf answer (TruthWith (SumTruth relation ks ts c) b) (LineWith (strict_sides relation ks ts c) b) ds es
    → IsAnswerOf answer (TruthWith (SumTruth relation ks ts c) b) (LineWith (sum_sides relation ks ts c) b) ds es
plain_answer relation ks ts c b answer ds es h =
    let truth = TruthWith (SumTruth relation ks ts c) b in
    same_answer answer truth truth (LineWith (strict_sides relation ks ts c) b) (LineWith (sum_sides relation ks ts c) b) ds es (plain relation ks ts c b) h

-- ---- where the ends decide it is about the Boolean

pub shown_one : (relation : Relation) (ks : List ℤ) (ts : List Term) (c : ℤ) (b : Term) (r : Stored) → (relation ≡ Below → ⊥) → AreDomains r.doms → AreTermsOf (length r.doms) ts
    → IsTermOf (length r.doms) b → IsSumShown relation r.doms ks ts c
    → IsAbout b (λ u. u ≡ pos 1) (TruthWith (SumTruth relation ks ts c) b) (LineWith (strict_sides relation ks ts c) b) r.doms
shown_one relation ks ts c b r bounded domains are is_b shown =
    shown_about (SumTruth relation ks ts c) (strict_sides relation ks ts c) b r.doms is_b (are_sides relation ks ts c r.doms)
    (λ a within. shown_true relation ks ts c r.doms a domains are shown within)
    (λ es now narrower. (
      shown_line relation ks ts c r es bounded domains now are narrower shown,
      not_both relation ks ts c es now (still_terms r.doms es ts are narrower) (shown_still relation ks ts c r.doms es domains now are narrower shown),
    ))

pub refuted_zero : (relation : Relation) (ks : List ℤ) (ts : List Term) (c : ℤ) (b : Term) (r : Stored) → (relation ≡ Below → ⊥) → AreDomains r.doms → AreTermsOf (length r.doms) ts
    → IsTermOf (length r.doms) b → IsTruth r.doms b → IsSumRefuted relation r.doms ks ts c
    → IsAbout b (λ u. u ≡ pos 0) (TruthWith (SumTruth relation ks ts c) b) (LineWith (strict_sides relation ks ts c) b) r.doms
refuted_zero relation ks ts c b r bounded domains are is_b truth refuted =
    refuted_about (SumTruth relation ks ts c) (strict_sides relation ks ts c) b r.doms is_b truth (are_sides relation ks ts c r.doms)
    (λ a within. refuted_false relation ks ts c r.doms a domains are refuted within)
    (λ es now narrower. (
      refuted_line relation ks ts c r es bounded domains now are narrower refuted,
      (λ shown. not_both relation ks ts c es now (still_terms r.doms es ts are narrower) shown (refuted_still relation ks ts c r.doms es domains now are narrower refuted)),
    ))

pub decided_answer : (relation : Relation) (ks : List ℤ) (ts : List Term) (c : ℤ) (b : Term) (change : Change) (P : ℤ → Type 0) (r s : Stored) → IsTermOf (length r.doms) b
    → IsTermChange change b P r s → Shrinks r s → IsAbout b P (TruthWith (SumTruth relation ks ts c) b) (LineWith (strict_sides relation ks ts c) b) r.doms
    → IsAnswerOf (settled_by change) (TruthWith (SumTruth relation ks ts c) b) (LineWith (sum_sides relation ks ts c) b) r.doms s.doms
decided_answer relation ks ts c b change P r s is_b h shrinks about =
    plain_answer relation ks ts c b (settled_by change) r.doms s.doms
    (settled_answer change b P (TruthWith (SumTruth relation ks ts c) b) (LineWith (strict_sides relation ks ts c) b) r s is_b h shrinks about)

pub decided_correct : (relation : Relation) (ks : List ℤ) (ts : List Term) (c : ℤ) (b : Term) (change : Change) (P : ℤ → Type 0) (r s : Stored)
    → IsTermChange change b P r s → Shrinks r s → IsAbout b P (TruthWith (SumTruth relation ks ts c) b) (LineWith (strict_sides relation ks ts c) b) r.doms
    → IsCorrectOf (TruthWith (SumTruth relation ks ts c) b) r.doms s.doms
decided_correct relation ks ts c b change P r s h shrinks about =
    settled_correct change b P (TruthWith (SumTruth relation ks ts c) b) (LineWith (strict_sides relation ks ts c) b) r s h shrinks about

-- ---- where they don't, what was true of all assignments stays so

never_refuted : (relation : Relation) (ks : List ℤ) (ts : List Term) (c : ℤ) (ds es : List (List (ℤ × ℤ))) → AreTermsOf (length ds) ts → IsNarrower ds es
    → ((a : List ℤ) → Within ds a → SumTruth relation ks ts c a) → AreDomains es → IsSumRefuted relation es ks ts c → ⊥
never_refuted relation ks ts c ds es are narrower all now refuted =
    let within = least_within es now in
    refuted_false relation ks ts c es (map least es) now (still_terms ds es ts are narrower) refuted within (all (map least es) (within_before ds es (map least es) narrower within))

never_shown : (relation : Relation) (ks : List ℤ) (ts : List Term) (c : ℤ) (ds es : List (List (ℤ × ℤ))) → AreTermsOf (length ds) ts → IsNarrower ds es
    → ((a : List ℤ) → Within ds a → SumFalse relation ks ts c a) → AreDomains es → IsSumShown relation es ks ts c → ⊥
never_shown relation ks ts c ds es are narrower none now shown =
    let within = least_within es now in
    none (map least es) (within_before ds es (map least es) narrower within) (shown_true relation ks ts c es (map least es) now (still_terms ds es ts are narrower) shown within)

strict_line : (relation : Relation) (ks : List ℤ) (ts : List Term) (c : ℤ) (answer : Answer) (r s : Stored) → AreTermsOf (length r.doms) ts → IsNarrower r.doms s.doms
    → (answer ≡ Fix → s ≡ r) → (IsSumRefuted relation r.doms ks ts c → ⊥) → IsAnswerSum relation ks ts c answer r.doms s.doms
    → IsAnswerOf answer (SumTruth relation ks ts c) (strict_sides relation ks ts c).line r.doms s.doms
strict_line relation ks ts c Fix r s are narrower still not h = (h, (λ refuted. not (subst (λ (t : Stored). IsSumRefuted relation t.doms ks ts c) (still refl) refuted)))
strict_line relation ks ts c NoFix r s are narrower still not h = h
strict_line relation ks ts c Subsumed r s are narrower still not h = (
  h.0,
  (λ es now shrunk. (h.1 es now shrunk, never_refuted relation ks ts c s.doms es (still_terms r.doms s.doms ts are narrower) shrunk h.0 now)),
)
strict_line relation ks ts c Failed r s are narrower still not h = h

strict_against : (relation : Relation) (ks : List ℤ) (ts : List Term) (c : ℤ) (answer : Answer) (r s : Stored) → AreTermsOf (length r.doms) ts → IsNarrower r.doms s.doms
    → (answer ≡ Fix → s ≡ r) → (IsSumShown relation r.doms ks ts c → ⊥) → IsAnswerAgainst relation ks ts c answer r.doms s.doms
    → IsAnswerOf answer (SumFalse relation ks ts c) (strict_sides relation ks ts c).against r.doms s.doms
strict_against relation ks ts c Fix r s are narrower still not h = (h, (λ shown. not (subst (λ (t : Stored). IsSumShown relation t.doms ks ts c) (still refl) shown)))
strict_against relation ks ts c NoFix r s are narrower still not h = h
strict_against relation ks ts c Subsumed r s are narrower still not h = (
  h.0,
  (λ es now shrunk. (h.1 es now shrunk, never_shown relation ks ts c s.doms es (still_terms r.doms s.doms ts are narrower) shrunk h.0 now)),
)
strict_against relation ks ts c Failed r s are narrower still not h = h

-- ---- the Boolean is fixed, and a run did what it says

pub said_correct : (said : Bool) (relation : Relation) (ks : List ℤ) (ts : List Term) (c : ℤ) (b : Term) (ds es : List (List (ℤ × ℤ))) → IsTermOf (length ds) b
    → IsOnly (term_set ds b) (truth_number said) → IsCorrectOf (SaidTruth said relation ks ts c) ds es → IsCorrectOf (TruthWith (SumTruth relation ks ts c) b) ds es
said_correct true relation ks ts c b ds es is_b fixed h = one_correct (SumTruth relation ks ts c) b ds es is_b fixed h
said_correct false relation ks ts c b ds es is_b fixed h = zero_correct (SumTruth relation ks ts c) b ds es is_b fixed h

strict_answer : (said : Bool) (relation : Relation) (ks : List ℤ) (ts : List Term) (c : ℤ) (b : Term) (answer : Answer) (r s : Stored) → AreTermsOf (length r.doms) ts → IsTermOf (length r.doms) b
    → IsOnly (term_set r.doms b) (truth_number said) → AreDomains s.doms → IsNarrower r.doms s.doms → (answer ≡ Fix → s ≡ r) → (IsSumShown relation r.doms ks ts c → ⊥)
    → (IsSumRefuted relation r.doms ks ts c → ⊥) → IsAnswerSaid said relation ks ts c answer r.doms s.doms
    → IsAnswerOf answer (TruthWith (SumTruth relation ks ts c) b) (LineWith (strict_sides relation ks ts c) b) r.doms s.doms
strict_answer true relation ks ts c b answer r s are is_b fixed domains narrower still not_shown not_refuted h =
    one_answer answer (SumTruth relation ks ts c) (strict_sides relation ks ts c) b r.doms s.doms is_b fixed (are_sides relation ks ts c r.doms) domains narrower
    (strict_line relation ks ts c answer r s are narrower still not_refuted h)
strict_answer false relation ks ts c b answer r s are is_b fixed domains narrower still not_shown not_refuted h =
    zero_answer answer (SumTruth relation ks ts c) (strict_sides relation ks ts c) b r.doms s.doms is_b fixed (are_sides relation ks ts c r.doms) domains narrower
    (strict_against relation ks ts c answer r s are narrower still not_shown h)

pub said_answer : (said : Bool) (relation : Relation) (ks : List ℤ) (ts : List Term) (c : ℤ) (b : Term) (answer : Answer) (r s : Stored) → AreTermsOf (length r.doms) ts → IsTermOf (length r.doms) b
    → IsOnly (term_set r.doms b) (truth_number said) → AreDomains s.doms → IsNarrower r.doms s.doms → (answer ≡ Fix → s ≡ r) → (IsSumShown relation r.doms ks ts c → ⊥)
    → (IsSumRefuted relation r.doms ks ts c → ⊥) → IsAnswerSaid said relation ks ts c answer r.doms s.doms
    → IsAnswerOf answer (TruthWith (SumTruth relation ks ts c) b) (LineWith (sum_sides relation ks ts c) b) r.doms s.doms
said_answer said relation ks ts c b answer r s are is_b fixed domains narrower still not_shown not_refuted h =
    plain_answer relation ks ts c b answer r.doms s.doms (strict_answer said relation ks ts c b answer r s are is_b fixed domains narrower still not_shown not_refuted h)

-- ---- an order whose Boolean is fixed: its line and what speaks against it never hold together

order_sides : (ks : List ℤ) (ts : List Term) (c : ℤ) (ds : List (List (ℤ × ℤ))) → AreTermsOf (length ds) ts → AreSides (sum_sides AtMost ks ts c) ds
order_sides ks ts c ds are = record {
  one = λ es domains narrower line refuted.
      let low = line.reached in
      refuted (least_sum es ks ts) (omega (arith, ints)) (sums_rise ks ts es domains (still_terms ds es ts are narrower)) low;
  zero = λ es domains narrower line shown.
      let high = line.reached in
      let turned = least_sum_negated ks ts es in
      let all = shown (greatest_sum es ks ts) (sums_rise ks ts es domains (still_terms ds es ts are narrower)) (omega (arith, ints)) in
      absurd (omega (arith, ints, high, turned, all));
}

pub order_answer : (said : Bool) (ks : List ℤ) (ts : List Term) (c : ℤ) (b : Term) (answer : Answer) (ds es : List (List (ℤ × ℤ))) → AreTermsOf (length ds) ts → IsTermOf (length ds) b
    → IsOnly (term_set ds b) (truth_number said) → AreDomains es → IsNarrower ds es → IsAnswerSaid said AtMost ks ts c answer ds es
    → IsAnswerOf answer (TruthWith (SumTruth AtMost ks ts c) b) (LineWith (sum_sides AtMost ks ts c) b) ds es
order_answer true ks ts c b answer ds es are is_b fixed domains narrower h =
    one_answer answer (SumTruth AtMost ks ts c) (sum_sides AtMost ks ts c) b ds es is_b fixed (order_sides ks ts c ds are) domains narrower h
order_answer false ks ts c b answer ds es are is_b fixed domains narrower h =
    zero_answer answer (SumTruth AtMost ks ts c) (sum_sides AtMost ks ts c) b ds es is_b fixed (order_sides ks ts c ds are) domains narrower h
