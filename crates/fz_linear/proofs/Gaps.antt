-- Sums of which all terms but one are fixed.
use Rattle.std.proofs.Common.{◌≡◌, ◌≢◌, ℕ, zero, suc, ◌<◌, ◌≤◌, List, [], ◌∷◌, refl, sym, subst, ◌∙◌, arith, length, take, drop, inl, inr}
use Rattle.std.specs.Prelude.{slice_get, Some, ℤ, pos, negsuc, ◌+ℤ◌, ◌-ℤ◌, ◌*ℤ◌}
use Rattle.std.specs.List.{AllByRecursion}
use Rattle.std.proofs.lemmas.Int.{ints}
use Rattle.fz_sets.specs.Sets.{IsInSet, IsWithinLimits}
use Rattle.fz_dom.specs.declared.change.Change.{Change}
use Rattle.fz_dom.specs.declared.change.Change.TheVariants.{Same, Changed, Wiped}
use Rattle.fz_spec.specs.declared.term.Term.{Term}
use Rattle.fz_spec.specs.declared.term.Term.TheVariants.{Num, Var}
use Rattle.fz_dom.proofs.Ranges.{within_limits}
use Rattle.fz_spec.specs.Constraints.{term_value, term_values}
use Rattle.fz_spec.specs.Truth.{weighted_sum}
use Rattle.fz_spec.specs.declared.shape.Relation.TheVariants.{NotEqual}
use Rattle.fz_strength.specs.Domains.{term_set, AreDomains, Within, IsTermOf}
use Rattle.fz_strength.specs.Events.{IsOnly, IsFixedIn, AllFixed}
use Rattle.fz_strength.specs.Sums.{least_product, least_sum, AllButOneFixed}
use Rattle.fz_strength.proofs.Terms.{within_before, is_single}
use Rattle.fz_prop.specs.declared.answer.Answer.TheVariants.{Subsumed, Failed}
use Rattle.fz_prop.specs.Answers.{IsCorrectOf}
use Rattle.fz_prop.specs.Stores.{Stored, Shrinks, FitsTerm, IsTermChange}
use Rattle.fz_prop.specs.Outcomes.{settled_by}
use Rattle.fz_prop.proofs.TermChanges.{term_within, only_in, within_kept, kept_term, none_kept}
use Rattle.fz_linear.specs.Terms.{AreTermsOf}
use Rattle.fz_linear.specs.Sums.{SumTruth, IsAnswerSum}
use Rattle.fz_linear.specs.Gaps.{AllOthersFixed, others_sum}
use Rattle.fz_linear.proofs.Slacks.{IsAt, at_head, term_at}

-- ---- fixed terms have one sum

product_single : (k x : ℤ) (d : List (ℤ × ℤ)) → IsOnly d x → least_product k d ≡ (k *ℤ x)
product_single (pos n) x d only = rw only refl
product_single (negsuc n) x d only = rw only refl

pub fixed_sum : (ks : List ℤ) (ts : List Term) (ds : List (List (ℤ × ℤ))) (a : List ℤ) → AllFixed ds ts → AreTermsOf (length ds) ts → Within ds a
    → weighted_sum ks (term_values a ts) ≡ least_sum ds ks ts
fixed_sum [] ts ds a fixed are within = refl
fixed_sum (k ∷ ks) [] ds a fixed are within = refl
fixed_sum (k ∷ ks) (t ∷ ts) ds a fixed are within =
    let value = only_in (term_set ds t) fixed.0.0 (term_value a t) fixed.0.1 (term_within ds a t are.0 within) in
    let here = product_single k fixed.0.0 (term_set ds t) fixed.0.1 in
    rw (here, ← value, fixed_sum ks ts ds a fixed.1 are.1 within) refl

-- the sum is that of the others and the one
pub with_others : (ks : List ℤ) (ts : List Term) (i : ℕ) (k : ℤ) (t : Term) (ds : List (List (ℤ × ℤ))) → IsAt ks ts i k t
    → least_sum ds ks ts ≡ (least_product k (term_set ds t) +ℤ (least_sum ds (take i ks) (take i ts) +ℤ least_sum ds (drop (suc i) ks) (drop (suc i) ts)))
with_others [] ts zero k t ds at = absurd (cc (at.factor))
with_others [] ts (suc i) k t ds at = absurd (cc (at.factor))
with_others (j ∷ ks) [] zero k t ds at = absurd (cc (at.term))
with_others (j ∷ ks) [] (suc i) k t ds at = absurd (cc (at.term))
with_others (j ∷ ks) (u ∷ ts) zero k t ds at =
    rw (← at_head j k ks ks at.factor, ← at_head u t ts ts at.term) (omega (arith, ints))
with_others (j ∷ ks) (u ∷ ts) (suc i) k t ds at =
    let rest = with_others ks ts i k t ds (record { factor = at.factor; term = at.term }) in omega (arith, ints, rest)

pub one_left : (ks : List ℤ) (ts : List Term) (i : ℕ) (k : ℤ) (t : Term) (ds : List (List (ℤ × ℤ))) (a : List ℤ) → AllFixed ds (take i ts) → AllFixed ds (drop (suc i) ts)
    → IsAt ks ts i k t → AreTermsOf (length ds) ts → Within ds a
    → weighted_sum ks (term_values a ts) ≡ ((k *ℤ term_value a t) +ℤ (least_sum ds (take i ks) (take i ts) +ℤ least_sum ds (drop (suc i) ks) (drop (suc i) ts)))
one_left [] ts zero k t ds a before behind at are within = absurd (cc (at.factor))
one_left [] ts (suc i) k t ds a before behind at are within = absurd (cc (at.factor))
one_left (j ∷ ks) [] zero k t ds a before behind at are within = absurd (cc (at.term))
one_left (j ∷ ks) [] (suc i) k t ds a before behind at are within = absurd (cc (at.term))
one_left (j ∷ ks) (u ∷ ts) zero k t ds a before behind at are within =
    let rest = fixed_sum ks ts ds a behind are.1 within in
    rw (← at_head j k ks ks at.factor, ← at_head u t ts ts at.term) (omega (arith, ints, rest))
one_left (j ∷ ks) (u ∷ ts) (suc i) k t ds a before behind at are within =
    let value = only_in (term_set ds u) before.0.0 (term_value a u) before.0.1 (term_within ds a u are.0 within) in
    let single_product = product_single j before.0.0 (term_set ds u) before.0.1 in
    let here : (j *ℤ term_value a u) ≡ least_product j (term_set ds u) = rw (single_product, ← value) refl in
    let rest = one_left ks ts i k t ds a before.1 behind (record { factor = at.factor; term = at.term }) are.1 within in
    omega (arith, ints, here, rest)

-- ---- which terms aren't fixed

not_all : (ts : List Term) (i : ℕ) (t : Term) (ds : List (List (ℤ × ℤ))) → drop i ts ≡ t ∷ drop (suc i) ts → (IsFixedIn ds t → ⊥) → AllFixed ds ts → ⊥
not_all [] zero t ds at loose fixed = absurd (cc (at))
not_all [] (suc i) t ds at loose fixed = absurd (cc (at))
not_all (u ∷ ts) zero t ds at loose fixed = loose (subst (IsFixedIn ds) (at_head u t ts ts at) fixed.0)
not_all (u ∷ ts) (suc i) t ds at loose fixed = not_all ts i t ds at loose fixed.1

pub behind_fixed : (ts : List Term) (i : ℕ) (t : Term) (ds : List (List (ℤ × ℤ))) → drop i ts ≡ t ∷ drop (suc i) ts → (IsFixedIn ds t → ⊥) → AllButOneFixed ds ts
    → AllFixed ds (drop (suc i) ts)
behind_fixed [] zero t ds at loose h = absurd (cc (at))
behind_fixed [] (suc i) t ds at loose h = absurd (cc (at))
behind_fixed (u ∷ ts) zero t ds at loose h = elim h [ inl rest ↦ rest | inr both ↦ absurd (loose (subst (IsFixedIn ds) (at_head u t ts ts at) both.0)) ]
behind_fixed (u ∷ ts) (suc i) t ds at loose h = elim h [ inl rest ↦ absurd (not_all ts i t ds at loose rest) | inr both ↦ behind_fixed ts i t ds at loose both.1 ]

pub several : (ts : List Term) (i j : ℕ) (t u : Term) (ds : List (List (ℤ × ℤ))) → drop i ts ≡ t ∷ drop (suc i) ts → (IsFixedIn ds t → ⊥)
    → drop j (drop (suc i) ts) ≡ u ∷ drop (suc j) (drop (suc i) ts) → (IsFixedIn ds u → ⊥) → AllButOneFixed ds ts → ⊥
several ts i j t u ds at loose behind also h = not_all (drop (suc i) ts) j u ds behind also (behind_fixed ts i t ds at loose h)

term_there : (ts : List Term) (i : ℕ) → i < length ts → (t : Term) × (slice_get ts i ≡ Some t) × (drop i ts ≡ t ∷ drop (suc i) ts)
term_there [] i within = absurd (omega (arith, within))
term_there (t ∷ ts) zero within = (t, refl, refl)
term_there (t ∷ ts) (suc i) within = term_there ts i (omega (arith, within))

-- the first that isn't fixed, and the first after it
pub two_unfixed : (ts behind : List Term) (i j : ℕ) (ds : List (List (ℤ × ℤ))) → behind ≡ drop (suc i) ts → i ≤ length ts → (i ≡ length ts → ⊥)
    → ((t : Term) → slice_get ts i ≡ Some t → IsFixedIn ds t → ⊥) → j ≤ length behind → (j ≡ length behind → ⊥)
    → ((t : Term) → slice_get behind j ≡ Some t → IsFixedIn ds t → ⊥) → AllButOneFixed ds ts → ⊥
two_unfixed ts behind i j ds rest within not_end loose within_rest not_end_rest loose_rest h =
    let first = term_there ts i (omega (arith, within, not_end)) in
    let second = term_there behind j (omega (arith, within_rest, not_end_rest)) in
    several ts i j first.0 second.0 ds first.2 (loose first.0 first.1) (rw (← rest) second.2) (loose_rest second.0 second.1) h

-- ---- the answers

-- no assignment within the store has the sum, nor one within a narrower store
pub apart_for_good : (ks : List ℤ) (ts : List Term) (c : ℤ) (s : Stored) → ((a : List ℤ) → Within s.doms a → weighted_sum ks (term_values a ts) ≢ c)
    → IsAnswerSum NotEqual ks ts c Subsumed s.doms s.doms
apart_for_good ks ts c s apart = (apart, (λ fs domains narrower fixed a within. apart a (within_before s.doms fs a narrower within)))

pub all_apart : (ks : List ℤ) (ts : List Term) (c least : ℤ) (s : Stored) → AllFixed s.doms ts → AreTermsOf (length s.doms) ts → least ≡ least_sum s.doms ks ts → least ≢ c
    → IsAnswerSum NotEqual ks ts c Subsumed s.doms s.doms
all_apart ks ts c least s fixed are is apart = apart_for_good ks ts c s (λ a within sum. apart (is ∙ (sym (fixed_sum ks ts s.doms a fixed are within) ∙ sum)))

pub all_equal : (ks : List ℤ) (ts : List Term) (c least : ℤ) (s : Stored) → AllFixed s.doms ts → AreTermsOf (length s.doms) ts → least ≡ least_sum s.doms ks ts → least ≡ c
    → IsAnswerSum NotEqual ks ts c Failed s.doms s.doms
all_equal ks ts c least s fixed are is same = λ a within apart. apart (fixed_sum ks ts s.doms a fixed are within ∙ (sym is ∙ same))

-- ---- one term is left: it must not be a product's other factor

-- the number that a term would be
abbrev pub HasSum : List ℤ → List Term → ℤ → ℤ → Term → ℤ → Stored → Type 0
HasSum ks ts c k t product s = (a : List ℤ) → Within s.doms a → (weighted_sum ks (term_values a ts) ≡ c → (k *ℤ term_value a t) ≡ product) × ((k *ℤ term_value a t) ≡ product → weighted_sum ks (term_values a ts) ≡ c)

pub has_sum : (ks : List ℤ) (ts : List Term) (i : ℕ) (c : ℤ) (k : ℤ) (t : Term) (product : ℤ) (s : Stored) → AllOthersFixed s.doms ts i → IsAt ks ts i k t
    → AreTermsOf (length s.doms) ts → product ≡ (c -ℤ others_sum s.doms ks ts i) → HasSum ks ts c k t product s
has_sum ks ts i c k t product s others at are is = λ a within.
    let sum = one_left ks ts i k t s.doms a others.0 others.1 at are within in
    ((λ e. omega (arith, ints, is, sum, e)), (λ e. omega (arith, ints, is, sum, e)))

pub none_excluded : (ks : List ℤ) (ts : List Term) (c : ℤ) (k : ℤ) (t : Term) (product : ℤ) (s : Stored) → IsTermOf (length s.doms) t
    → ((x : ℤ) → IsInSet (term_set s.doms t) x → IsWithinLimits x) → HasSum ks ts c k t product s → ((x : ℤ) → IsWithinLimits x → (k *ℤ x) ≢ product)
    → IsAnswerSum NotEqual ks ts c Subsumed s.doms s.doms
none_excluded ks ts c k t product s is limits sums none =
    apart_for_good ks ts c s (λ a within sum. none (term_value a t) (limits (term_value a t) (term_within s.doms a t is within)) ((sums a within).0 sum))

pub each_excluded : (ks : List ℤ) (ts : List Term) (c : ℤ) (k : ℤ) (t : Term) (product : ℤ) (s : Stored) → HasSum ks ts c k t product s → ((x : ℤ) → (k *ℤ x) ≡ product)
    → IsAnswerSum NotEqual ks ts c Failed s.doms s.doms
each_excluded ks ts c k t product s sums each = λ a within apart. apart ((sums a within).1 (each (term_value a t)))

-- the factor of the sum's product leaves the term
not_value : (ks : List ℤ) (ts : List Term) (c : ℤ) (k : ℤ) (t : Term) (product v : ℤ) (s : Stored) (a : List ℤ) → HasSum ks ts c k t product s → (k *ℤ v) ≡ product → Within s.doms a
    → weighted_sum ks (term_values a ts) ≢ c → term_value a t ≢ v
not_value ks ts c k t product v s a sums is within apart same = apart ((sums a within).1 (rw same is))

pub value_correct : (change : Change) (ks : List ℤ) (ts : List Term) (c : ℤ) (k : ℤ) (t : Term) (product v : ℤ) (r s : Stored) → HasSum ks ts c k t product r → (k *ℤ v) ≡ product
    → IsTermChange change t (λ x. x ≢ v) r s → Shrinks r s → IsCorrectOf (SumTruth NotEqual ks ts c) r.doms s.doms
value_correct change ks ts c k t product v r s sums is h shrinks = λ a apart within.
    within_kept change t (λ x. x ≢ v) r s a h shrinks within (not_value ks ts c k t product v r a sums is within apart)

pub value_wiped : (ks : List ℤ) (ts : List Term) (c : ℤ) (k : ℤ) (t : Term) (product v : ℤ) (r s : Stored) → IsTermOf (length r.doms) t → HasSum ks ts c k t product r → (k *ℤ v) ≡ product
    → IsTermChange Wiped t (λ x. x ≢ v) r s → IsAnswerSum NotEqual ks ts c Failed r.doms s.doms
value_wiped ks ts c k t product v r s is_t sums is h = λ a within apart.
    none_kept t (λ x. x ≢ v) r s h (term_value a t) (term_within r.doms a t is_t within) (not_value ks ts c k t product v r a sums is within apart)

pub value_gone : (change : Change) (ks : List ℤ) (ts : List Term) (c : ℤ) (k : ℤ) (t : Term) (product v : ℤ) (r s : Stored) → IsTermOf (length r.doms) t → HasSum ks ts c k t product r
    → ((x : ℤ) → (k *ℤ x) ≡ product → x ≡ v) → IsTermChange change t (λ x. x ≢ v) r s → Shrinks r s → (change ≡ Wiped → ⊥) → IsAnswerSum NotEqual ks ts c Subsumed r.doms s.doms
value_gone change ks ts c k t product v r s was_t sums only h shrinks not =
    let is_t : IsTermOf (length s.doms) t = subst (λ (n : ℕ). IsTermOf n t) (sym shrinks.narrower.size) was_t in
    apart_for_good ks ts c s (λ a within sum.
    let before = within_before r.doms s.doms a shrinks.narrower within in
    (kept_term change t (λ x. x ≢ v) r s h not (term_value a t) (term_within s.doms a t is_t within)).1 (only (term_value a t) ((sums a before).0 sum)))

pub value_settled : (change : Change) (ks : List ℤ) (ts : List Term) (c : ℤ) (k : ℤ) (t : Term) (product v : ℤ) (r s : Stored) → IsTermOf (length r.doms) t → HasSum ks ts c k t product r
    → (k *ℤ v) ≡ product → ((x : ℤ) → (k *ℤ x) ≡ product → x ≡ v) → IsTermChange change t (λ x. x ≢ v) r s → Shrinks r s → IsAnswerSum NotEqual ks ts c (settled_by change) r.doms s.doms
value_settled Wiped ks ts c k t product v r s is_t sums is only h shrinks = value_wiped ks ts c k t product v r s is_t sums is h
value_settled Same ks ts c k t product v r s is_t sums is only h shrinks = value_gone Same ks ts c k t product v r s is_t sums only h shrinks (λ e. absurd (cc (e)))
value_settled Changed ks ts c k t product v r s is_t sums is only h shrinks = value_gone Changed ks ts c k t product v r s is_t sums only h shrinks (λ e. absurd (cc (e)))

-- ---- the numbers of a term are within the limits

each_at : (P : Term → Type 0) (ts : List Term) (i : ℕ) (t : Term) → drop i ts ≡ t ∷ drop (suc i) ts → AllByRecursion P ts → P t
each_at P [] zero t at all = absurd (cc (at))
each_at P [] (suc i) t at all = absurd (cc (at))
each_at P (u ∷ ts) zero t at all = subst P (at_head u t ts ts at) all.0
each_at P (u ∷ ts) (suc i) t at all = each_at P ts i t at all.1

term_limits : (ds : List (List (ℤ × ℤ))) (t : Term) → AreDomains ds → IsTermOf (length ds) t → FitsTerm t → (x : ℤ) → IsInSet (term_set ds t) x → IsWithinLimits x
term_limits ds (Num n) domains is fits x inside = subst IsWithinLimits (sym (is_single x n inside)) fits
term_limits ds (Var v) domains is fits x inside = within_limits (term_set ds (Var v)) x (domains v is).0.1 inside

pub limits_at : (ks : List ℤ) (ts : List Term) (i : ℕ) (k : ℤ) (t : Term) (ds : List (List (ℤ × ℤ))) → IsAt ks ts i k t → AreDomains ds → AreTermsOf (length ds) ts → AllByRecursion FitsTerm ts
    → (x : ℤ) → IsInSet (term_set ds t) x → IsWithinLimits x
limits_at ks ts i k t ds at domains are fits = term_limits ds t domains (term_at ks ts i (length ds) k t at are) (each_at FitsTerm ts i t at.term fits)
