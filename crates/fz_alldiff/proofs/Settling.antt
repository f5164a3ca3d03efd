-- Fixed places whose numbers leave all others at once.
use Rattle.std.proofs.Common.{◌≡◌, ◌≢◌, ◌⊎◌, ◌-◌, ◌<◌, ◌≤◌, ℕ, ◌+◌, zero, suc, ℤ, pos, ◌<ℤ◌, List, [], ◌∷◌, ◌++◌, refl, sym, subst, ◌∙◌, ap, arith, length, inl, inr, true, false}
use Rattle.std.specs.Prelude.{Bool, slice_get, slice_index_or, Some}
use Rattle.std.specs.List.{AllByRecursion, Contains}
use Rattle.std.specs.List.Sorted.{IsPermutation}
use Rattle.std.proofs.lemmas.Bool.{cases_eq}
use Rattle.std.proofs.lemmas.Int.{ints, by_lt_z}
use Rattle.std.proofs.lemmas.List.Elements.{Contains-push, Contains-append_left, All-from_recursion, recursion_from_All}
use Rattle.std.proofs.lemmas.List.Sorted.{All-permutation, Contains-permutation}
use Rattle.std.proofs.lemmas.List.{length_push}
use Rattle.std.proofs.lemmas.Option.{slice_get_within}
use Rattle.fz_sets.specs.Sets.{IsInSet}
use Rattle.fz_dom.specs.declared.change.Change.{Change}
use Rattle.fz_dom.specs.declared.change.Change.TheVariants.{Wiped}
use Rattle.fz_spec.specs.declared.term.Term.{Term}
use Rattle.fz_spec.specs.Constraints.{term_value}
use Rattle.fz_strength.specs.Domains.{term_set, AreDomains, Within, IsTermOf}
use Rattle.fz_strength.specs.Events.{IsOnly}
use Rattle.fz_strength.proofs.Terms.{only_number}
use Rattle.fz_sets.proofs.Lists.{all_at}
use Rattle.fz_prop.specs.Answers.{IsCorrectOf}
use Rattle.fz_prop.specs.Stores.{Stored, Shrinks, IsTermChange}
use Rattle.fz_prop.proofs.Filled.{still_only}
use Rattle.fz_prop.proofs.TermChanges.{narrower_term, only_in, within_kept, kept_term}
use Rattle.fz_prop.proofs.Twice.{shrinks_twice}
use Rattle.fz_prop.proofs.Steps.{same_shrinks}
use Rattle.fz_alldiff.specs.Differing.{AreCleared, AreNeverDifferent, IsDifferent, IsDone, IsFixedPlace, IsOnlyAt}
use Rattle.fz_alldiff.specs.Settled.{AreEntriesOf, AreRising, IsFreeOf}
use Rattle.fz_alldiff.proofs.Clearing.{fixed_still, same_term}
use Rattle.fz_alldiff.proofs.Removing.{has_other}

-- ---- the entries

-- those of the places before k
pub record AreListed (xs : List Term) (ds : List (List (ℤ × ℤ))) (es : List (ℤ × ℕ)) (k : ℕ) : Type 0 where
  pub each : (i : ℕ) (n : ℤ) → i < k → IsOnlyAt xs ds i n → Contains es (n, i)
  pub only : AllByRecursion (λ (e : ℤ × ℕ). IsOnlyAt xs ds e.1 e.0) es

all_more : (P : ℤ × ℕ → Type 0) (es : List (ℤ × ℕ)) (e : ℤ × ℕ) → AllByRecursion P es → P e → AllByRecursion P (es ++ e ∷ [])
all_more P [] e all is = (is, tt)
all_more P (f ∷ es) e all is = (all.0, all_more P es e all.1 is)

pair_same : (P : ℤ × ℕ → Type 0) (n m : ℤ) (k i : ℕ) → n ≡ m → k ≡ i → P (n, k) → P (m, i)
pair_same P n m k i a b h = subst (λ (j : ℕ). P (m, j)) b (subst (λ (u : ℤ). P (u, k)) a h)

pub listed_more : (xs : List Term) (ds : List (List (ℤ × ℤ))) (es : List (ℤ × ℕ)) (k : ℕ) (t : Term) (n : ℤ) → slice_get xs k ≡ Some t → IsOnly (term_set ds t) n → AreListed xs ds es k
    → AreListed xs ds (es ++ (n, k) ∷ []) (k + 1)
listed_more xs ds es k t n at only is = record {
  each = λ i m below here. elim (cases_eq i k) [
    | inl e ↦
        let same : here.0 ≡ t = same_term xs k here.0 t (subst (λ (j : ℕ). slice_get xs j ≡ Some here.0) e here.1) at in
        let is_n : n ≡ m = only_number (term_set ds t) n m only (subst (λ (u : Term). IsOnly (term_set ds u) m) same here.2) in
        pair_same (λ (p : ℤ × ℕ). Contains (es ++ (n, k) ∷ []) p) n m k i is_n (sym e) (Contains-push es (n, k))
    | inr ne ↦ Contains-append_left es ((n, k) ∷ []) (m, i) (is.each i m (omega (arith, below, ne)) here)
  ];
  only = all_more (λ (e : ℤ × ℕ). IsOnlyAt xs ds e.1 e.0) es (n, k) is.only (t, at, only);
}

pub listed_passed : (xs : List Term) (ds : List (List (ℤ × ℤ))) (es : List (ℤ × ℕ)) (k : ℕ) (t : Term) → slice_get xs k ≡ Some t → ((n : ℤ) → IsOnly (term_set ds t) n → ⊥) → AreListed xs ds es k → AreListed xs ds es (k + 1)
listed_passed xs ds es k t at open_ is = record {
  each = λ i m below here. elim (cases_eq i k) [
    | inl e ↦
        let same : here.0 ≡ t = same_term xs k here.0 t (subst (λ (j : ℕ). slice_get xs j ≡ Some here.0) e here.1) at in
        absurd (open_ m (subst (λ (u : Term). IsOnly (term_set ds u) m) same here.2))
    | inr ne ↦ is.each i m (omega (arith, below, ne)) here
  ];
  only = is.only;
}

pub listed_all : (xs : List Term) (ds : List (List (ℤ × ℤ))) (es fs : List (ℤ × ℕ)) (k : ℕ) → length xs ≤ k → IsPermutation es fs → AreListed xs ds es k → AreEntriesOf xs ds fs
listed_all xs ds es fs k end p is = record {
  each = λ i n here. let inside = slice_get_within xs i here.0 here.1 in Contains-permutation es fs (n, i) p (is.each i n (omega (arith, end, inside)) here);
  only = recursion_from_All (λ (e : ℤ × ℕ). IsOnlyAt xs ds e.1 e.0) fs (All-permutation (λ (e : ℤ × ℕ). IsOnlyAt xs ds e.1 e.0) es fs p (All-from_recursion (λ (e : ℤ × ℕ). IsOnlyAt xs ds e.1 e.0) es is.only));
}

-- ---- in order

rising_by : (es : List (ℤ × ℕ)) → AreRising es → (k g : ℕ) → k + suc g < length es → (slice_index_or es k (pos 0, 0)).0 <ℤ (slice_index_or es (k + suc g) (pos 0, 0)).0
rising_by es rising k zero inside = subst (λ (j : ℕ). (slice_index_or es k (pos 0, 0)).0 <ℤ (slice_index_or es j (pos 0, 0)).0) (omega arith) (rising k (omega (arith, inside)))
rising_by es rising k (suc g) inside =
    let first = rising_by es rising k g (omega (arith, inside)) in
    let next = rising (k + suc g) (omega (arith, inside)) in
    let e : (k + suc g) + 1 ≡ k + suc (suc g) = omega arith in
    let last = subst (λ (j : ℕ). (slice_index_or es (k + suc g) (pos 0, 0)).0 <ℤ (slice_index_or es j (pos 0, 0)).0) e next in
    omega (arith, ints, first, last)

rising_far : (es : List (ℤ × ℕ)) → AreRising es → (k l : ℕ) → k < l → l < length es → (slice_index_or es k (pos 0, 0)).0 <ℤ (slice_index_or es l (pos 0, 0)).0
rising_far es rising k l below inside =
    let gap : k + suc (l - (k + 1)) ≡ l = omega (arith, below) in
    subst (λ (j : ℕ). (slice_index_or es k (pos 0, 0)).0 <ℤ (slice_index_or es j (pos 0, 0)).0) gap (rising_by es rising k (l - (k + 1)) (omega (arith, gap, inside)))

other_default : (es : List (ℤ × ℕ)) (k : ℕ) (d e : ℤ × ℕ) → k < length es → slice_index_or es k d ≡ slice_index_or es k e
other_default [] k d e inside = absurd (omega (arith, inside))
other_default (f ∷ es) zero d e inside = refl
other_default (f ∷ es) (suc k) d e inside = other_default es k d e (omega (arith, inside))

by_order : (k l : ℕ) → (k ≡ l → ⊥) → (k < l) ⊎ (l < k)
by_order k l apart = by_lt_z (pos k) (pos l) (λ lt. inl (omega (arith, ints, lt))) (λ le. inr (omega (arith, ints, le, apart)))

-- no two places have one number
pub one_place : (es : List (ℤ × ℕ)) (n : ℤ) (i j : ℕ) → AreRising es → Contains es (n, i) → Contains es (n, j) → i ≡ j
one_place es n i j rising first second =
    let k = first.0 in
    let l = second.0 in
    let at_k : slice_index_or es k (pos 0, 0) ≡ (n, i) = other_default es k (pos 0, 0) (n, i) first.1 ∙ first.2 in
    let at_l : slice_index_or es l (pos 0, 0) ≡ (n, j) = other_default es l (pos 0, 0) (n, j) second.1 ∙ second.2 in
    let n_k = ap (λ (e : ℤ × ℕ). e.0) at_k in
    let n_l = ap (λ (e : ℤ × ℕ). e.0) at_l in
    elim (cases_eq k l) [
      | inl e ↦ sym (ap (λ (e : ℤ × ℕ). e.1) at_k) ∙ ap (λ (m : ℕ). (slice_index_or es m (pos 0, 0)).1) e ∙ ap (λ (e : ℤ × ℕ). e.1) at_l
      | inr ne ↦ elim (by_order k l ne) [
        | inl lt ↦ (let up = rising_far es rising k l lt second.1 in absurd (omega (arith, ints, up, n_k, n_l)))
        | inr gt ↦ (let up = rising_far es rising l k gt first.1 in absurd (omega (arith, ints, up, n_k, n_l)))
      ]
    ]

-- ---- one term

pub record IsKeeping (t : Term) (es : List (ℤ × ℕ)) (r s : Stored) : Type 0 where
  pub shrinks : Shrinks r s
  pub within : (a : List ℤ) → Within r.doms a → IsFreeOf es (term_value a t) → Within s.doms a
  pub outside : (n : ℤ) → IsInSet (term_set s.doms t) n → IsFreeOf es n

pub keeping_none : (t : Term) (s : Stored) → IsKeeping t [] s s
keeping_none t s = record { shrinks = same_shrinks s; within = λ a within free. within; outside = λ n is. tt }

free_split : (es : List (ℤ × ℕ)) (e : ℤ × ℕ) (n : ℤ) → IsFreeOf (es ++ e ∷ []) n → IsFreeOf es n × (n ≢ e.0)
free_split [] e n h = (tt, h.0)
free_split (f ∷ es) e n h = let rest = free_split es e n h.1 in ((h.0, rest.0), rest.1)

pub keeping_more : (change : Change) (t : Term) (es : List (ℤ × ℕ)) (e : ℤ × ℕ) (r s u : Stored) → IsTermChange change t (λ x. x ≢ e.0) s u → (change ≡ Wiped → ⊥) → Shrinks s u → IsKeeping t es r s → IsKeeping t (es ++ e ∷ []) r u
keeping_more change t es e r s u h not shrinks is = record {
  shrinks = shrinks_twice r s u is.shrinks shrinks;
  within = λ a within free. let f = free_split es e (term_value a t) free in within_kept change t (λ x. x ≢ e.0) s u a h shrinks (is.within a within f.0) f.1;
  outside = λ n here. let k = kept_term change t (λ x. x ≢ e.0) s u h not n here in all_more (λ (f : ℤ × ℕ). n ≢ f.0) es e (is.outside n k.0) k.1;
}

-- ---- all terms

pub record IsSettling (xs : List Term) (es : List (ℤ × ℕ)) (done : List Bool) (r s : Stored) (k : ℕ) : Type 0 where
  pub domains : AreDomains s.doms
  pub shrinks : Shrinks r s
  pub correct : IsCorrectOf (IsDifferent xs) r.doms s.doms
  pub outside : (j : ℕ) (y : Term) → j < k → (IsDone done j → ⊥) → slice_get xs j ≡ Some y → (n : ℤ) → IsInSet (term_set s.doms y) n → IsFreeOf es n

pub settling_none : (xs : List Term) (es : List (ℤ × ℕ)) (done : List Bool) (s : Stored) → AreDomains s.doms → IsSettling xs es done s s 0
settling_none xs es done s domains = record { domains = domains; shrinks = same_shrinks s; correct = λ a all within. within; outside = λ j y below. absurd (omega (arith, below)) }

pub settling_passed : (xs : List Term) (es : List (ℤ × ℕ)) (done : List Bool) (r s : Stored) (k : ℕ) → IsDone done k → IsSettling xs es done r s k → IsSettling xs es done r s (k + 1)
settling_passed xs es done r s k is_done is = record {
  domains = is.domains;
  shrinks = is.shrinks;
  correct = is.correct;
  outside = λ j y below undone at. elim (cases_eq j k) [
    | inl e ↦ absurd (undone (subst (IsDone done) (sym e) is_done))
    | inr ne ↦ is.outside j y (omega (arith, below, ne)) undone at
  ];
}

-- an assignment gives a place that isn't fixed none of the numbers of fixed ones
free_value : (xs : List Term) (ds : List (List (ℤ × ℤ))) (es : List (ℤ × ℕ)) (a : List ℤ) (k : ℕ) (y : Term) → AllByRecursion (IsTermOf (length ds)) xs → AllByRecursion (λ (e : ℤ × ℕ). IsOnlyAt xs ds e.1 e.0) es → (IsFixedPlace xs ds k → ⊥)
    → slice_get xs k ≡ Some y → Within ds a → IsDifferent xs a → IsFreeOf es (term_value a y)
free_value xs ds [] a k y terms only open_ at within all = tt
free_value xs ds (e ∷ es) a k y terms only open_ at within all = (
  has_other xs ds a e.0 e.1 k y terms only.0 (λ same. open_ (subst (IsFixedPlace xs ds) same (only.0.0, only.0.1, (e.0, only.0.2)))) at within all,
  free_value xs ds es a k y terms only.1 open_ at within all,
)

pub settling_more : (xs : List Term) (es : List (ℤ × ℕ)) (done : List Bool) (r s t : Stored) (k : ℕ) (y : Term) → AllByRecursion (IsTermOf (length r.doms)) xs → AreEntriesOf xs r.doms es → (IsFixedPlace xs r.doms k → ⊥) → slice_get xs k ≡ Some y
    → AreDomains t.doms → Shrinks s t → ((a : List ℤ) → Within s.doms a → IsFreeOf es (term_value a y) → Within t.doms a) → ((n : ℤ) → IsInSet (term_set t.doms y) n → IsFreeOf es n)
    → IsSettling xs es done r s k → IsSettling xs es done r t (k + 1)
settling_more xs es done r s t k y terms entries open_ at domains shrinks kept free is = record {
  domains = domains;
  shrinks = shrinks_twice r s t is.shrinks shrinks;
  correct = λ a all within. kept a (is.correct a all within) (free_value xs r.doms es a k y terms entries.only open_ at within all);
  outside = λ j z below undone at_j n here. elim (cases_eq j k) [
    | inl e ↦
        let same : z ≡ y = same_term xs k z y (subst (λ (m : ℕ). slice_get xs m ≡ Some z) e at_j) at in
        free n (subst (λ (u : Term). IsInSet (term_set t.doms u) n) same here)
    | inr ne ↦ is.outside j z (omega (arith, below, ne)) undone at_j n (narrower_term s.doms t.doms z shrinks.narrower n here)
  ];
}

pub settling_correct : (xs : List Term) (es : List (ℤ × ℕ)) (done : List Bool) (r s t : Stored) (k : ℕ) (y : Term) → AllByRecursion (IsTermOf (length r.doms)) xs → AreEntriesOf xs r.doms es → (IsFixedPlace xs r.doms k → ⊥) → slice_get xs k ≡ Some y
    → ((a : List ℤ) → Within s.doms a → IsFreeOf es (term_value a y) → Within t.doms a) → IsSettling xs es done r s k → IsCorrectOf (IsDifferent xs) r.doms t.doms
settling_correct xs es done r s t k y terms entries open_ at kept is = λ a all within. kept a (is.correct a all within) (free_value xs r.doms es a k y terms entries.only open_ at within all)

pub settling_fails : (xs : List Term) (es : List (ℤ × ℕ)) (done : List Bool) (r s : Stored) (k : ℕ) (y : Term) → AllByRecursion (IsTermOf (length r.doms)) xs → AreEntriesOf xs r.doms es → (IsFixedPlace xs r.doms k → ⊥) → slice_get xs k ≡ Some y
    → ((a : List ℤ) → Within s.doms a → IsFreeOf es (term_value a y) → ⊥) → IsSettling xs es done r s k → AreNeverDifferent xs r.doms
settling_fails xs es done r s k y terms entries open_ at never is = λ a within all. never a (is.correct a all within) (free_value xs r.doms es a k y terms entries.only open_ at within all)

free_at : (es : List (ℤ × ℕ)) (n : ℤ) (i : ℕ) → IsFreeOf es n → Contains es (n, i) → ⊥
free_at [] n i free has = let inside = has.1 in omega (arith, inside)
free_at (e ∷ es) n i free (zero, inside, at) = free.0 (sym (ap (λ (f : ℤ × ℕ). f.0) at))
free_at (e ∷ es) n i free (suc k, inside, at) = free_at es n i free.1 (k, omega (arith, inside), at)

pub settled_all : (xs : List Term) (es : List (ℤ × ℕ)) (done : List Bool) (r s : Stored) (k : ℕ) → AllByRecursion (IsTermOf (length r.doms)) xs → length xs ≤ k → AreRising es → AreEntriesOf xs r.doms es
    → ((i : ℕ) → IsDone done i → IsFixedPlace xs r.doms i) → ((i : ℕ) → (IsDone done i → ⊥) ⊎ IsDone done i) → IsSettling xs es done r s k → AreCleared xs s.doms done
settled_all xs es done r s k terms end rising entries fixed decided is = λ i done_i. (
  fixed_still xs r.doms s.doms i terms is.domains is.shrinks.narrower (fixed i done_i),
  (λ j x y other at_i at_j n only here.
      let was = fixed i done_i in
      let same : was.0 ≡ x = same_term xs i was.0 x was.1 at_i in
      let before : IsOnly (term_set r.doms x) was.2.0 = subst (λ (t : Term). IsOnly (term_set r.doms t) was.2.0) same was.2.1 in
      let is_n : was.2.0 ≡ n = only_number (term_set s.doms x) was.2.0 n (still_only r.doms s.doms x was.2.0 (all_at (IsTermOf (length r.doms)) xs i x terms at_i) before is.domains is.shrinks.narrower) only in
      let own : Contains es (n, i) = entries.each i n (x, at_i, subst (λ (m : ℤ). IsOnly (term_set r.doms x) m) is_n before) in
      elim (decided j) [
        | inl undone ↦ free_at es n i (is.outside j y (let inside = slice_get_within xs j y at_j in omega (arith, end, inside)) undone at_j n here) own
        | inr done_j ↦ (
            let w = fixed j done_j in
            let at_y : IsOnly (term_set r.doms y) w.2.0 = subst (λ (t : Term). IsOnly (term_set r.doms t) w.2.0) (same_term xs j w.0 y w.1 at_j) w.2.1 in
            let is_w : n ≡ w.2.0 = only_in (term_set r.doms y) w.2.0 n at_y (narrower_term r.doms s.doms y is.shrinks.narrower n here) in
            let its : Contains es (n, j) = entries.each j n (y, at_j, subst (λ (m : ℤ). IsOnly (term_set r.doms y) m) (sym is_w) at_y) in
            other (one_place es n i j rising own its))
      ]),
)

pub is_decided : (done : List Bool) (i : ℕ) → (IsDone done i → ⊥) ⊎ IsDone done i
is_decided done i = elim (slice_index_or done i false) as (λ b. slice_index_or done i false ≡ b → (IsDone done i → ⊥) ⊎ IsDone done i) [
  | true ↦ λ is. inr is
  | false ↦ λ is. inl (λ yes. cc (yes, is))
] refl

-- ---- which places are fixed

pub record AreFlags (xs : List Term) (ds : List (List (ℤ × ℤ))) (done : List Bool) (k : ℕ) : Type 0 where
  pub size : length done ≡ k
  pub fixed : (i : ℕ) → IsDone done i → IsFixedPlace xs ds i
  pub each : (i : ℕ) → i < k → IsFixedPlace xs ds i → IsDone done i

done_more : (done : List Bool) (b : Bool) (i : ℕ) → IsDone (done ++ b ∷ []) i → IsDone done i ⊎ ((i ≡ length done) × (b ≡ true))
done_more [] b zero is = inr (refl, is)
done_more [] b (suc i) is = absurd (cc is)
done_more (d ∷ done) b zero is = inl is
done_more (d ∷ done) b (suc i) is = elim (done_more done b i is) [
  | inl h ↦ inl h
  | inr h ↦ inr (ap suc h.0, h.1)
]

done_before : (done : List Bool) (b : Bool) (i : ℕ) → IsDone done i → IsDone (done ++ b ∷ []) i
done_before [] b i is = absurd (cc is)
done_before (d ∷ done) b zero is = is
done_before (d ∷ done) b (suc i) is = done_before done b i is

done_last : (done : List Bool) (b : Bool) → b ≡ true → IsDone (done ++ b ∷ []) (length done)
done_last [] b is = is
done_last (d ∷ done) b is = done_last done b is

pub flags_more : (xs : List Term) (ds : List (List (ℤ × ℤ))) (done : List Bool) (k : ℕ) (t : Term) (b : Bool) → slice_get xs k ≡ Some t → (b ≡ true → (n : ℤ) × IsOnly (term_set ds t) n) → ((n : ℤ) → IsOnly (term_set ds t) n → b ≡ true) → AreFlags xs ds done k → AreFlags xs ds (done ++ b ∷ []) (k + 1)
flags_more xs ds done k t b at only back is = record {
  size = let s = is.size in let p = length_push done b in omega (arith, s, p);
  fixed = λ i here. elim (done_more done b i here) [
    | inl h ↦ is.fixed i h
    | inr h ↦ (let same : k ≡ i = sym is.size ∙ sym h.0 in subst (IsFixedPlace xs ds) same (t, at, only h.1))
  ];
  each = λ i below here. elim (cases_eq i k) [
    | inl e ↦
        let same : here.0 ≡ t = same_term xs k here.0 t (subst (λ (j : ℕ). slice_get xs j ≡ Some here.0) e here.1) at in
        let yes = back here.2.0 (subst (λ (u : Term). IsOnly (term_set ds u) here.2.0) same here.2.1) in
        subst (IsDone (done ++ b ∷ [])) (is.size ∙ sym e) (done_last done b yes)
    | inr ne ↦ done_before done b i (is.each i (omega (arith, below, ne)) here)
  ];
}
