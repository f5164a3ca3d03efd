-- Weighted sums between their ends, and how far a term lies from its own.
use Rattle.std.proofs.Common.{◌≡◌, ℕ, zero, suc, List, [], ◌∷◌, refl, sym, ap, subst, ◌∙◌, arith, length, drop}
use Rattle.std.specs.Prelude.{ℤ, neg_ℤ, ◌+ℤ◌, ◌*ℤ◌, ◌≤ℤ◌}
use Rattle.std.proofs.lemmas.Int.{ints}
use Rattle.fz_spec.specs.declared.term.Term.{Term}
use Rattle.fz_spec.specs.Constraints.{term_value, term_values}
use Rattle.fz_spec.specs.Truth.{weighted_sum}
use Rattle.fz_strength.specs.Domains.{term_set, AreDomains, Within, IsNarrower, IsTermOf}
use Rattle.fz_strength.specs.Sums.{least_product, greatest_product, least_sum, greatest_sum, AreNear, negated}
use Rattle.fz_prop.proofs.TermChanges.{term_within, narrower_term}
use Rattle.fz_linear.specs.declared.side.Side.{Side}
use Rattle.fz_linear.specs.declared.side.Side.TheVariants.{Above, Below}
use Rattle.fz_linear.specs.Sides.{seen_from, all_seen_from}
use Rattle.fz_linear.specs.Terms.{AreTermsOf}
use Rattle.fz_shift.proofs.Spans.{spanned, product_above, product_below, products_rise, least_rises, greatest_falls, least_negated, greatest_negated}

pub terms_of : (n m : ℕ) (ts : List Term) → n ≡ m → AreTermsOf n ts → AreTermsOf m ts
terms_of n m ts same is = subst (λ (k : ℕ). AreTermsOf k ts) same is

-- ---- sums between their ends

pub sum_above : (ks : List ℤ) (ts : List Term) (ds : List (List (ℤ × ℤ))) (a : List ℤ) → AreDomains ds → AreTermsOf (length ds) ts → Within ds a
    → least_sum ds ks ts ≤ℤ weighted_sum ks (term_values a ts)
sum_above [] ts ds a domains are within = omega (arith, ints)
sum_above (k ∷ ks) [] ds a domains are within = omega (arith, ints)
sum_above (k ∷ ks) (t ∷ ts) ds a domains are within =
    let here = product_above k (term_set ds t) (term_value a t) (spanned ds t domains are.0) (term_within ds a t are.0 within) in
    let rest = sum_above ks ts ds a domains are.1 within in
    omega (arith, ints, here, rest)

pub sum_below : (ks : List ℤ) (ts : List Term) (ds : List (List (ℤ × ℤ))) (a : List ℤ) → AreDomains ds → AreTermsOf (length ds) ts → Within ds a
    → weighted_sum ks (term_values a ts) ≤ℤ greatest_sum ds ks ts
sum_below [] ts ds a domains are within = omega (arith, ints)
sum_below (k ∷ ks) [] ds a domains are within = omega (arith, ints)
sum_below (k ∷ ks) (t ∷ ts) ds a domains are within =
    let here = product_below k (term_set ds t) (term_value a t) (spanned ds t domains are.0) (term_within ds a t are.0 within) in
    let rest = sum_below ks ts ds a domains are.1 within in
    omega (arith, ints, here, rest)

pub sums_rise : (ks : List ℤ) (ts : List Term) (ds : List (List (ℤ × ℤ))) → AreDomains ds → AreTermsOf (length ds) ts → least_sum ds ks ts ≤ℤ greatest_sum ds ks ts
sums_rise [] ts ds domains are = omega (arith, ints)
sums_rise (k ∷ ks) [] ds domains are = omega (arith, ints)
sums_rise (k ∷ ks) (t ∷ ts) ds domains are =
    let here = products_rise k (term_set ds t) (spanned ds t domains are.0) in
    let rest = sums_rise ks ts ds domains are.1 in
    omega (arith, ints, here, rest)

-- as a store gets narrower, a least sum rises and a greatest falls
pub least_sum_rises : (ks : List ℤ) (ts : List Term) (ds es : List (List (ℤ × ℤ))) → AreDomains ds → AreDomains es → AreTermsOf (length ds) ts → IsNarrower ds es
    → least_sum ds ks ts ≤ℤ least_sum es ks ts
least_sum_rises [] ts ds es domains now are narrower = omega (arith, ints)
least_sum_rises (k ∷ ks) [] ds es domains now are narrower = omega (arith, ints)
least_sum_rises (k ∷ ks) (t ∷ ts) ds es domains now are narrower =
    let still : IsTermOf (length es) t = subst (λ (n : ℕ). IsTermOf n t) (sym narrower.size) are.0 in
    let here = least_rises k (term_set ds t) (term_set es t) (spanned ds t domains are.0) (spanned es t now still) (narrower_term ds es t narrower) in
    let rest = least_sum_rises ks ts ds es domains now are.1 narrower in
    omega (arith, ints, here, rest)

pub greatest_sum_falls : (ks : List ℤ) (ts : List Term) (ds es : List (List (ℤ × ℤ))) → AreDomains ds → AreDomains es → AreTermsOf (length ds) ts → IsNarrower ds es
    → greatest_sum es ks ts ≤ℤ greatest_sum ds ks ts
greatest_sum_falls [] ts ds es domains now are narrower = omega (arith, ints)
greatest_sum_falls (k ∷ ks) [] ds es domains now are narrower = omega (arith, ints)
greatest_sum_falls (k ∷ ks) (t ∷ ts) ds es domains now are narrower =
    let still : IsTermOf (length es) t = subst (λ (n : ℕ). IsTermOf n t) (sym narrower.size) are.0 in
    let here = greatest_falls k (term_set ds t) (term_set es t) (spanned ds t domains are.0) (spanned es t now still) (narrower_term ds es t narrower) in
    let rest = greatest_sum_falls ks ts ds es domains now are.1 narrower in
    omega (arith, ints, here, rest)

-- ---- the negated sum

pub least_sum_negated : (ks : List ℤ) (ts : List Term) (ds : List (List (ℤ × ℤ))) → least_sum ds (negated ks) ts ≡ neg_ℤ (greatest_sum ds ks ts)
least_sum_negated [] ts ds = refl
least_sum_negated (k ∷ ks) [] ds = refl
least_sum_negated (k ∷ ks) (t ∷ ts) ds =
    let here = least_negated k (term_set ds t) in let rest = least_sum_negated ks ts ds in omega (arith, ints, here, rest)

pub greatest_sum_negated : (ks : List ℤ) (ts : List Term) (ds : List (List (ℤ × ℤ))) → greatest_sum ds (negated ks) ts ≡ neg_ℤ (least_sum ds ks ts)
greatest_sum_negated [] ts ds = refl
greatest_sum_negated (k ∷ ks) [] ds = refl
greatest_sum_negated (k ∷ ks) (t ∷ ts) ds =
    let here = greatest_negated k (term_set ds t) in let rest = greatest_sum_negated ks ts ds in omega (arith, ints, here, rest)

-- ---- how far a term lies from its least

-- where the ends of the sum are no further apart than the slack, those of no term are
pub near_all : (ks : List ℤ) (ts : List Term) (ds : List (List (ℤ × ℤ))) (slack : ℤ) → AreDomains ds → AreTermsOf (length ds) ts
    → greatest_sum ds ks ts ≤ℤ (least_sum ds ks ts +ℤ slack) → AreNear ds slack ks ts
near_all [] ts ds slack domains are near = tt
near_all (k ∷ ks) [] ds slack domains are near = tt
near_all (k ∷ ks) (t ∷ ts) ds slack domains are near =
    let here = products_rise k (term_set ds t) (spanned ds t domains are.0) in
    let rest = sums_rise ks ts ds domains are.1 in (
      omega (arith, ints, near, rest),
      near_all ks ts ds slack domains are.1 (omega (arith, ints, near, here)),
    )

-- and so it is seen from the other side
pub near_negated : (ks : List ℤ) (ts : List Term) (ds : List (List (ℤ × ℤ))) (slack : ℤ) → AreNear ds slack ks ts → AreNear ds slack (negated ks) ts
near_negated [] ts ds slack near = tt
near_negated (k ∷ ks) [] ds slack near = tt
near_negated (k ∷ ks) (t ∷ ts) ds slack near =
    let low = least_negated k (term_set ds t) in
    let high = greatest_negated k (term_set ds t) in
    let here = near.0 in
    (omega (arith, ints, low, high, here), near_negated ks ts ds slack near.1)

-- a factor and a term at a place
pub record IsAt (ks : List ℤ) (ts : List Term) (i : ℕ) (k : ℤ) (t : Term) : Type 0 where
  pub factor : drop i ks ≡ k ∷ drop (suc i) ks
  pub term : drop i ts ≡ t ∷ drop (suc i) ts

pub at_head : {X : Type 0} (x y : X) (xs ys : List X) → (x ∷ xs) ≡ (y ∷ ys) → x ≡ y
at_head x y xs ys e = cc

-- where the sum is near its least, each term is near its own
pub near_at : (ks : List ℤ) (ts : List Term) (i : ℕ) (k : ℤ) (t : Term) (ds : List (List (ℤ × ℤ))) (a : List ℤ) (slack : ℤ) → AreDomains ds → AreTermsOf (length ds) ts
    → Within ds a → IsAt ks ts i k t → weighted_sum ks (term_values a ts) ≤ℤ (least_sum ds ks ts +ℤ slack)
    → (k *ℤ term_value a t) ≤ℤ (least_product k (term_set ds t) +ℤ slack)
near_at [] ts zero k t ds a slack domains are within at near = absurd (cc (at.factor))
near_at [] ts (suc i) k t ds a slack domains are within at near = absurd (cc (at.factor))
near_at (j ∷ ks) [] zero k t ds a slack domains are within at near = absurd (cc (at.term))
near_at (j ∷ ks) [] (suc i) k t ds a slack domains are within at near = absurd (cc (at.term))
near_at (j ∷ ks) (u ∷ ts) zero k t ds a slack domains are within at near =
    let rest = sum_above ks ts ds a domains are.1 within in
    rw (← at_head j k ks ks at.factor, ← at_head u t ts ts at.term) (omega (arith, ints, near, rest))
near_at (j ∷ ks) (u ∷ ts) (suc i) k t ds a slack domains are within at near =
    let here = product_above j (term_set ds u) (term_value a u) (spanned ds u domains are.0) (term_within ds a u are.0 within) in
    near_at ks ts i k t ds a slack domains are.1 within (record { factor = at.factor; term = at.term }) (omega (arith, ints, near, here))

pub near_from : (ks : List ℤ) (ts : List Term) (i : ℕ) (k : ℤ) (t : Term) (ds : List (List (ℤ × ℤ))) (slack : ℤ) → IsAt ks ts i k t
    → greatest_product k (term_set ds t) ≤ℤ (least_product k (term_set ds t) +ℤ slack) → AreNear ds slack (drop (suc i) ks) (drop (suc i) ts)
    → AreNear ds slack (drop i ks) (drop i ts)
near_from ks ts i k t ds slack at here rest = rw (at.factor, at.term) (here, rest)

pub term_at : (ks : List ℤ) (ts : List Term) (i n : ℕ) (k : ℤ) (t : Term) → IsAt ks ts i k t → AreTermsOf n ts → IsTermOf n t
term_at ks [] zero n k t at are = absurd (cc (at.term))
term_at ks [] (suc i) n k t at are = absurd (cc (at.term))
term_at ks (u ∷ ts) zero n k t at are = subst (IsTermOf n) (at_head u t ts ts at.term) are.0
term_at [] (u ∷ ts) (suc i) n k t at are = absurd (cc (at.factor))
term_at (j ∷ ks) (u ∷ ts) (suc i) n k t at are = term_at ks ts i n k t (record { factor = at.factor; term = at.term }) are.1

pub drop_negated : (ks : List ℤ) (i : ℕ) → drop i (negated ks) ≡ negated (drop i ks)
drop_negated ks zero = refl
drop_negated [] (suc i) = refl
drop_negated (k ∷ ks) (suc i) = drop_negated ks i

pub at_negated : (ks : List ℤ) (ts : List Term) (i : ℕ) (k : ℤ) (t : Term) → IsAt ks ts i k t → IsAt (negated ks) ts i (neg_ℤ k) t
at_negated ks ts i k t at = record {
  factor = drop_negated ks i ∙ (ap negated at.factor ∙ ap (λ (js : List ℤ). neg_ℤ k ∷ js) (sym (drop_negated ks (suc i))));
  term = at.term;
}

pub at_seen : (side : Side) (ks : List ℤ) (ts : List Term) (i : ℕ) (k : ℤ) (t : Term) → IsAt ks ts i k t → IsAt (all_seen_from side ks) ts i (seen_from side k) t
at_seen Above ks ts i k t at = at
at_seen Below ks ts i k t at = at_negated ks ts i k t at
