-- Sums of which that many terms at the front are fixed: the rest is related to what is left of the number.
use Rattle.std.proofs.Common.{◌≡◌, ℕ, zero, suc, ◌≤◌, List, [], ◌∷◌, refl, sym, ap, subst, arith, length, drop, inl, inr}
use Rattle.std.specs.Prelude.{ℤ, pos, negsuc, neg_ℤ, ◌+ℤ◌, ◌-ℤ◌, ◌*ℤ◌, ◌≤ℤ◌, ◌↔◌, sum_by, unsigned_abs}
use Rattle.std.specs.List.{AllByRecursion}
use Rattle.std.proofs.lemmas.Int.{ints}
use Rattle.std.proofs.lemmas.List.Sums.{sum_by-cons}
use Rattle.fz_spec.specs.declared.term.Term.{Term}
use Rattle.fz_spec.specs.Constraints.{term_value, term_values}
use Rattle.fz_spec.specs.Truth.{weighted_sum, Relates}
use Rattle.fz_spec.specs.declared.shape.Relation.{Relation}
use Rattle.fz_spec.specs.declared.shape.Relation.TheVariants.{Equal, NotEqual, AtMost, Below}
use Rattle.fz_strength.specs.Domains.{term_set, AreDomains, Within, IsNarrower}
use Rattle.fz_strength.specs.Events.{IsOnly}
use Rattle.fz_strength.specs.Sums.{least_product, greatest_product, least_sum, greatest_sum, AreNear, RestsAtMost, negated, AllButOneFixed}
use Rattle.fz_strength.proofs.SumLaws.{neg_product, all_but_one}
use Rattle.fz_strength.proofs.Terms.{within_before}
use Rattle.fz_prop.specs.declared.answer.Answer.{Answer}
use Rattle.fz_prop.specs.declared.answer.Answer.TheVariants.{Fix, NoFix, Subsumed, Failed}
use Rattle.fz_prop.specs.Answers.{IsCorrectOf}
use Rattle.fz_prop.proofs.TermChanges.{term_within, only_in}
use Rattle.fz_prop.proofs.Twice.{narrower_twice}
use Rattle.fz_prop.specs.Told.{IsToldSum}
use Rattle.fz_prop.proofs.Lasting.{sum_lasts}
use Rattle.fz_linear.specs.Terms.{AreTermsOf}
use Rattle.fz_linear.specs.Precisions.{Allows}
use Rattle.fz_linear.specs.declared.narrow.Precision.{Precision}
use Rattle.fz_linear.specs.declared.narrow.Precision.TheVariants.{Narrow, Wide}
use Rattle.fz_linear.specs.Sums.{SumTruth, SumLine, IsAnswerSum}
use Rattle.fz_linear.proofs.Slacks.{IsAt, at_head, drop_negated}

least_only : (k x : ℤ) (d : List (ℤ × ℤ)) → IsOnly d x → least_product k d ≡ (k *ℤ x)
least_only (pos n) x d only = rw only refl
least_only (negsuc n) x d only = rw only refl

greatest_only : (k x : ℤ) (d : List (ℤ × ℤ)) → IsOnly d x → greatest_product k d ≡ (k *ℤ x)
greatest_only (pos n) x d only = rw only refl
greatest_only (negsuc n) x d only = rw only refl

-- ---- the front

pub told_inside : (ks : List ℤ) (ts : List Term) (front : ℕ) (n : ℤ) (ds : List (List (ℤ × ℤ))) → IsToldSum ks ts front n ds → front ≤ length ts
told_inside ks ts zero n ds told = omega arith
told_inside [] ts (suc front) n ds told = absurd told
told_inside (k ∷ ks) [] (suc front) n ds told = absurd told
told_inside (k ∷ ks) (t ∷ ts) (suc front) n ds told = let rest = told_inside ks ts front (n -ℤ (k *ℤ told.0)) ds told.2 in omega (arith, rest)

-- one more is fixed
pub told_more : (ks : List ℤ) (ts : List Term) (front : ℕ) (n total : ℤ) (k x : ℤ) (t : Term) (ds : List (List (ℤ × ℤ))) → IsAt ks ts front k t → IsOnly (term_set ds t) x
    → total ≡ (n +ℤ (k *ℤ x)) → IsToldSum ks ts front n ds → IsToldSum ks ts (suc front) total ds
told_more [] ts zero n total k x t ds at only more told = absurd (cc (at.factor))
told_more [] ts (suc front) n total k x t ds at only more told = absurd told
told_more (j ∷ ks) [] zero n total k x t ds at only more told = absurd (cc (at.term))
told_more (j ∷ ks) [] (suc front) n total k x t ds at only more told = absurd told
told_more (j ∷ ks) (u ∷ ts) zero n total k x t ds at only more told =
    let factor : j ≡ k = at_head j k ks ks at.factor in
    let term : u ≡ t = at_head u t ts ts at.term in
    (x, subst (λ (w : Term). IsOnly (term_set ds w) x) (sym term) only, rw factor (omega (arith, ints, more, told)))
told_more (j ∷ ks) (u ∷ ts) (suc front) n total k x t ds at only more told =
    (told.0, told.1, told_more ks ts front (n -ℤ (j *ℤ told.0)) (total -ℤ (j *ℤ told.0)) k x t ds (record { factor = at.factor; term = at.term }) only (omega (arith, ints, more)) told.2)

-- ---- what is left of a sum

pub told_sum : (ks : List ℤ) (ts : List Term) (front : ℕ) (n : ℤ) (ds : List (List (ℤ × ℤ))) (a : List ℤ) → AreTermsOf (length ds) ts → Within ds a → IsToldSum ks ts front n ds
    → weighted_sum ks (term_values a ts) ≡ (n +ℤ weighted_sum (drop front ks) (term_values a (drop front ts)))
told_sum ks ts zero n ds a are within told = omega (arith, ints, told)
told_sum [] ts (suc front) n ds a are within told = absurd told
told_sum (k ∷ ks) [] (suc front) n ds a are within told = absurd told
told_sum (k ∷ ks) (t ∷ ts) (suc front) n ds a are within told =
    let value = only_in (term_set ds t) told.0 (term_value a t) told.1 (term_within ds a t are.0 within) in
    let here : (k *ℤ term_value a t) ≡ (k *ℤ told.0) = ap (λ (v : ℤ). k *ℤ v) value in
    let rest = told_sum ks ts front (n -ℤ (k *ℤ told.0)) ds a are.1 within told.2 in
    omega (arith, ints, here, rest)

pub told_least : (ks : List ℤ) (ts : List Term) (front : ℕ) (n : ℤ) (ds : List (List (ℤ × ℤ))) → IsToldSum ks ts front n ds
    → least_sum ds ks ts ≡ (n +ℤ least_sum ds (drop front ks) (drop front ts))
told_least ks ts zero n ds told = omega (arith, ints, told)
told_least [] ts (suc front) n ds told = absurd told
told_least (k ∷ ks) [] (suc front) n ds told = absurd told
told_least (k ∷ ks) (t ∷ ts) (suc front) n ds told =
    let here = least_only k told.0 (term_set ds t) told.1 in
    let rest = told_least ks ts front (n -ℤ (k *ℤ told.0)) ds told.2 in
    omega (arith, ints, here, rest)

pub told_greatest : (ks : List ℤ) (ts : List Term) (front : ℕ) (n : ℤ) (ds : List (List (ℤ × ℤ))) → IsToldSum ks ts front n ds
    → greatest_sum ds ks ts ≡ (n +ℤ greatest_sum ds (drop front ks) (drop front ts))
told_greatest ks ts zero n ds told = omega (arith, ints, told)
told_greatest [] ts (suc front) n ds told = absurd told
told_greatest (k ∷ ks) [] (suc front) n ds told = absurd told
told_greatest (k ∷ ks) (t ∷ ts) (suc front) n ds told =
    let here = greatest_only k told.0 (term_set ds t) told.1 in
    let rest = told_greatest ks ts front (n -ℤ (k *ℤ told.0)) ds told.2 in
    omega (arith, ints, here, rest)

told_near : (ks : List ℤ) (ts : List Term) (front : ℕ) (n : ℤ) (ds : List (List (ℤ × ℤ))) (slack : ℤ) → pos 0 ≤ℤ slack → IsToldSum ks ts front n ds
    → AreNear ds slack (drop front ks) (drop front ts) → AreNear ds slack ks ts
told_near ks ts zero n ds slack some told near = near
told_near [] ts (suc front) n ds slack some told near = absurd told
told_near (k ∷ ks) [] (suc front) n ds slack some told near = absurd told
told_near (k ∷ ks) (t ∷ ts) (suc front) n ds slack some told near =
    let low = least_only k told.0 (term_set ds t) told.1 in
    let high = greatest_only k told.0 (term_set ds t) told.1 in
    (omega (arith, ints, low, high, some), told_near ks ts front (n -ℤ (k *ℤ told.0)) ds slack some told.2 near)

pub told_negated : (ks : List ℤ) (ts : List Term) (front : ℕ) (n m : ℤ) (ds : List (List (ℤ × ℤ))) → m ≡ neg_ℤ n → IsToldSum ks ts front n ds → IsToldSum (negated ks) ts front m ds
told_negated ks ts zero n m ds is told = omega (arith, ints, is, told)
told_negated [] ts (suc front) n m ds is told = absurd told
told_negated (k ∷ ks) [] (suc front) n m ds is told = absurd told
told_negated (k ∷ ks) (t ∷ ts) (suc front) n m ds is told =
    let here = neg_product k told.0 in
    (told.0, told.1, told_negated ks ts front (n -ℤ (k *ℤ told.0)) (m -ℤ (neg_ℤ k *ℤ told.0)) ds (omega (arith, ints, is, here)) told.2)

-- ---- lines

pub told_at_most : (ks : List ℤ) (ts : List Term) (front : ℕ) (n c left : ℤ) (ds : List (List (ℤ × ℤ))) → left ≡ (c -ℤ n) → IsToldSum ks ts front n ds
    → RestsAtMost ds (drop front ks) (drop front ts) left → RestsAtMost ds ks ts c
told_at_most ks ts front n c left ds is told rests =
    let least = told_least ks ts front n ds told in
    let reached = rests.reached in
    let slack : (left -ℤ least_sum ds (drop front ks) (drop front ts)) ≡ (c -ℤ least_sum ds ks ts) = omega (arith, ints, least, is) in
    record {
      reached = omega (arith, ints, least, is, reached);
      near = told_near ks ts front n ds (c -ℤ least_sum ds ks ts) (omega (arith, ints, least, is, reached)) told
          (subst (λ (s : ℤ). AreNear ds s (drop front ks) (drop front ts)) slack rests.near);
    }

told_others : (ks : List ℤ) (ts : List Term) (front : ℕ) (n : ℤ) (ds : List (List (ℤ × ℤ))) → IsToldSum ks ts front n ds → AllButOneFixed ds ts → AllButOneFixed ds (drop front ts)
told_others ks ts zero n ds told others = others
told_others [] ts (suc front) n ds told others = absurd told
told_others (k ∷ ks) [] (suc front) n ds told others = absurd told
told_others (k ∷ ks) (t ∷ ts) (suc front) n ds told (inl all) = told_others ks ts front (n -ℤ (k *ℤ told.0)) ds told.2 (all_but_one ts ds all)
told_others (k ∷ ks) (t ∷ ts) (suc front) n ds told (inr rest) = told_others ks ts front (n -ℤ (k *ℤ told.0)) ds told.2 rest.1

pub told_line : (relation : Relation) (ks : List ℤ) (ts : List Term) (front : ℕ) (n c left : ℤ) (ds : List (List (ℤ × ℤ))) → AreTermsOf (length ds) ts → left ≡ (c -ℤ n)
    → IsToldSum ks ts front n ds → SumLine relation (drop front ks) (drop front ts) left ds → SumLine relation ks ts c ds
told_line Equal ks ts front n c left ds are is told line = (
  told_at_most ks ts front n c left ds is told line.0,
  told_at_most (negated ks) ts front (neg_ℤ n) (neg_ℤ c) (neg_ℤ left) ds (omega (arith, ints, is)) (told_negated ks ts front n (neg_ℤ n) ds refl told)
      (subst (λ (js : List ℤ). RestsAtMost ds js (drop front ts) (neg_ℤ left)) (sym (drop_negated ks front)) line.1),
)
told_line NotEqual ks ts front n c left ds are is told line = λ others a within e.
    let sum = told_sum ks ts front n ds a are within told in
    line (told_others ks ts front n ds told others) a within (omega (arith, ints, sum, is, e))
told_line AtMost ks ts front n c left ds are is told line = told_at_most ks ts front n c left ds is told line
told_line Below ks ts front n c left ds are is told line = absurd line

-- ---- truths

pub related : (relation : Relation) (whole rest n c left : ℤ) → whole ≡ (n +ℤ rest) → left ≡ (c -ℤ n) → Relates relation rest left ↔ Relates relation whole c
related Equal whole rest n c left sum is = ((λ h. omega (arith, ints, sum, is, h)), (λ h. omega (arith, ints, sum, is, h)))
related NotEqual whole rest n c left sum is = ((λ h e. h (omega (arith, ints, sum, is, e))), (λ h e. h (omega (arith, ints, sum, is, e))))
related AtMost whole rest n c left sum is = ((λ h. omega (arith, ints, sum, is, h)), (λ h. omega (arith, ints, sum, is, h)))
related Below whole rest n c left sum is = ((λ h. omega (arith, ints, sum, is, h)), (λ h. omega (arith, ints, sum, is, h)))

pub told_truth : (relation : Relation) (ks : List ℤ) (ts : List Term) (front : ℕ) (n c left : ℤ) (ds : List (List (ℤ × ℤ))) (a : List ℤ) → AreTermsOf (length ds) ts → left ≡ (c -ℤ n)
    → IsToldSum ks ts front n ds → Within ds a → SumTruth relation (drop front ks) (drop front ts) left a ↔ SumTruth relation ks ts c a
told_truth relation ks ts front n c left ds a are is told within =
    related relation (weighted_sum ks (term_values a ts)) (weighted_sum (drop front ks) (term_values a (drop front ts))) n c left (told_sum ks ts front n ds a are within told) is

pub terms_narrower : (n m : ℕ) (ts : List Term) → m ≡ n → AreTermsOf n ts → AreTermsOf m ts
terms_narrower n m ts e are = subst (λ (k : ℕ). AreTermsOf k ts) (sym e) are

-- ---- a run over the rest

pub told_correct : (relation : Relation) (ks : List ℤ) (ts : List Term) (front : ℕ) (n c left : ℤ) (ds es : List (List (ℤ × ℤ))) → AreTermsOf (length ds) ts → left ≡ (c -ℤ n)
    → IsToldSum ks ts front n ds → IsCorrectOf (SumTruth relation (drop front ks) (drop front ts) left) ds es → IsCorrectOf (SumTruth relation ks ts c) ds es
told_correct relation ks ts front n c left ds es are is told correct = λ a holds within. correct a ((told_truth relation ks ts front n c left ds a are is told within).1 holds) within

pub told_answer : (answer : Answer) (relation : Relation) (ks : List ℤ) (ts : List Term) (front : ℕ) (n c left : ℤ) (ds es : List (List (ℤ × ℤ))) → AreTermsOf (length ds) ts → left ≡ (c -ℤ n)
    → AreDomains es → IsNarrower ds es → IsToldSum ks ts front n ds → IsAnswerSum relation (drop front ks) (drop front ts) left answer ds es → IsAnswerSum relation ks ts c answer ds es
told_answer Fix relation ks ts front n c left ds es are is domains narrower told h =
    told_line relation ks ts front n c left es (terms_narrower (length ds) (length es) ts narrower.size are) is (sum_lasts ks ts front n ds es domains narrower told) h
told_answer NoFix relation ks ts front n c left ds es are is domains narrower told h = h
told_answer Subsumed relation ks ts front n c left ds es are is domains narrower told h = (
  (λ a within. (told_truth relation ks ts front n c left ds a are is told (within_before ds es a narrower within)).0 (h.0 a within)),
  (λ fs filled less.
      let whole = narrower_twice ds es fs narrower less in
      told_line relation ks ts front n c left fs (terms_narrower (length ds) (length fs) ts whole.size are) is (sum_lasts ks ts front n ds fs filled whole told) (h.1 fs filled less)),
)
told_answer Failed relation ks ts front n c left ds es are is domains narrower told h = λ a within holds. h a within ((told_truth relation ks ts front n c left ds a are is told within).1 holds)

-- ---- of the rest of lists

pub all_dropped : {X : Type 0} (P : X → Type 0) (front : ℕ) (xs : List X) → AllByRecursion P xs → AllByRecursion P (drop front xs)
all_dropped P zero xs all = all
all_dropped P (suc front) [] all = tt
all_dropped P (suc front) (x ∷ xs) all = all_dropped P front xs all.1

weight_falls : (front : ℕ) (ks : List ℤ) → sum_by unsigned_abs (drop front ks) ≤ sum_by unsigned_abs ks
weight_falls zero ks = omega arith
weight_falls (suc front) [] = omega arith
weight_falls (suc front) (k ∷ ks) = let rest = weight_falls front ks in omega (arith, rest, sum_by-cons unsigned_abs k ks)

pub allowed_dropped : (precision : Precision) (front : ℕ) (ks : List ℤ) → Allows precision ks → Allows precision (drop front ks)
allowed_dropped Narrow front ks light = let less = weight_falls front ks in omega (arith, less, light)
allowed_dropped Wide front ks light = tt

pub length_dropped : {X : Type 0} {Y : Type 0} (front : ℕ) (xs : List X) (ys : List Y) → length xs ≡ length ys → length (drop front xs) ≡ length (drop front ys)
length_dropped zero xs ys same = same
length_dropped (suc front) [] [] same = refl
length_dropped (suc front) [] (y ∷ ys) same = absurd (omega (arith, same))
length_dropped (suc front) (x ∷ xs) [] same = absurd (omega (arith, same))
length_dropped (suc front) (x ∷ xs) (y ∷ ys) same = length_dropped front xs ys (omega (arith, same))

pub length_falls : {X : Type 0} (front : ℕ) (xs : List X) → length (drop front xs) ≤ length xs
length_falls zero xs = omega arith
length_falls (suc front) [] = omega arith
length_falls (suc front) (x ∷ xs) = let rest = length_falls front xs in omega (arith, rest)
