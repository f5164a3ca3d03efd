-- Terms at the front that are fixed: the rest is accepted from the state behind them.
use Rattle.std.proofs.Common.{◌≡◌, ℕ, zero, suc, ◌≤◌, List, [], ◌∷◌, refl, sym, ap, subst, arith, length, drop}
use Rattle.std.specs.Prelude.{ℤ, ◌↔◌, slice_get, Option, Some, None, MatchOption}
use Rattle.std.specs.List.{AllByRecursion}
use Rattle.fz_sets.specs.Sets.{IsInSet}
use Rattle.fz_sets.proofs.Lists.{some_is, all_at}
use Rattle.fz_spec.specs.declared.term.Term.{Term}
use Rattle.fz_spec.specs.Constraints.{term_value, term_values}
use Rattle.fz_spec.specs.Truth.{Automaton, IsState, IsStep, RunsFrom}
use Rattle.fz_spec.proofs.Automata.{begun, stepped}
use Rattle.fz_strength.specs.Domains.{term_set, AreDomains, Within, IsNarrower, IsTermOf}
use Rattle.fz_strength.specs.Events.{IsOnly}
use Rattle.fz_strength.specs.Regular.{IsLeftWord, IsInLeftWord, IsRegularLine}
use Rattle.fz_strength.proofs.Terms.{in_single, within_before}
use Rattle.fz_prop.specs.declared.answer.Answer.{Answer}
use Rattle.fz_prop.specs.declared.answer.Answer.TheVariants.{Fix, NoFix, Subsumed, Failed}
use Rattle.fz_prop.specs.Answers.{IsAnswerOf, IsCorrectOf}
use Rattle.fz_prop.proofs.Filled.{still_only}
use Rattle.fz_prop.proofs.TermChanges.{term_within, only_in}
use Rattle.fz_prop.proofs.Twice.{narrower_twice}
use Rattle.fz_column.specs.Apart.{AreApart}
use Rattle.fz_regular.specs.declared.bit_rows.BitRows.{BitRows}
use Rattle.fz_regular.specs.BitRows.{IsNext}
use Rattle.fz_regular.specs.Runs.{number, LeadsBy, LeadsTo, IsAcceptedAt}
use Rattle.fz_regular.specs.Fronts.{started, IsFront}
use Rattle.fz_regular.proofs.Lists.{counted, run_state}
use Rattle.fz_regular.proofs.Words.{next_as}

-- ---- the front

pub front_inside : (a : Automaton) (xs : List Term) (ds : List (List (ℤ × ℤ))) (front : ℕ) (from to : ℤ) → IsFront a xs ds front from to → front ≤ length xs
front_inside a xs ds zero from to h = omega arith
front_inside a [] ds (suc front) from to h = absurd h
front_inside a (x ∷ xs) ds (suc front) from to h = let rest = front_inside a xs ds front h.1 to h.5 in omega (arith, rest)

-- one more is fixed
pub front_more : (a : Automaton) (xs : List Term) (ds : List (List (ℤ × ℤ))) (front : ℕ) (from to n next : ℤ) (t : Term) → slice_get xs front ≡ Some t → IsOnly (term_set ds t) n → IsState a to → IsStep a to n next
    → IsFront a xs ds front from to → IsFront a xs ds (suc front) from next
front_more a [] ds zero from to n next t at only state step h = absurd (cc (at))
front_more a [] ds (suc front) from to n next t at only state step h = absurd h
front_more a (x ∷ xs) ds zero from to n next t at only state step h =
    (n, next, subst (λ (u : Term). IsOnly (term_set ds u) n) (sym (some_is x t at)) only, subst (IsState a) (sym h) state, subst (λ (p : ℤ). IsStep a p n next) (sym h) step, refl)
front_more a (x ∷ xs) ds (suc front) from to n next t at only state step h = (h.0, h.1, h.2, h.3, h.4, front_more a xs ds front h.1 to n next t at only state step h.5)

-- it stays where less is left
front_still : (a : Automaton) (xs : List Term) (ds es : List (List (ℤ × ℤ))) (front : ℕ) (from to : ℤ) → AllByRecursion (IsTermOf (length ds)) xs → AreDomains es → IsNarrower ds es
    → IsFront a xs ds front from to → IsFront a xs es front from to
front_still a xs ds es zero from to terms domains narrower h = h
front_still a [] ds es (suc front) from to terms domains narrower h = absurd h
front_still a (x ∷ xs) ds es (suc front) from to terms domains narrower h =
    (h.0, h.1, still_only ds es x h.0 terms.0 h.2 domains narrower, h.3, h.4, front_still a xs ds es front h.1 to terms.1 domains narrower h.5)

-- ---- what is accepted

front_runs : (a : Automaton) (xs : List Term) (ds : List (List (ℤ × ℤ))) (front : ℕ) (from to : ℤ) (assigned : List ℤ) → AllByRecursion (IsTermOf (length ds)) xs → Within ds assigned → IsFront a xs ds front from to
    → RunsFrom a from (term_values assigned xs) ↔ RunsFrom a to (term_values assigned (drop front xs))
front_runs a xs ds zero from to assigned terms within h = (
  (λ r. subst (λ (p : ℤ). RunsFrom a p (term_values assigned xs)) h r),
  (λ r. subst (λ (p : ℤ). RunsFrom a p (term_values assigned xs)) (sym h) r),
)
front_runs a [] ds (suc front) from to assigned terms within h = absurd h
front_runs a (x ∷ xs) ds (suc front) from to assigned terms within h =
    let value = only_in (term_set ds x) h.0 (term_value assigned x) h.2 (term_within ds assigned x terms.0 within) in
    let step : IsStep a from (term_value assigned x) h.1 = subst (λ (n : ℤ). IsStep a from n h.1) (sym value) h.4 in
    let one = stepped a from (term_value assigned x) h.1 (term_values assigned xs) h.3 step in
    let rest = front_runs a xs ds front h.1 to assigned terms.1 within h.5 in
    ((λ r. rest.0 (one.0 r)), (λ r. one.1 (rest.1 r)))

front_truth : (a : Automaton) (xs : List Term) (ds : List (List (ℤ × ℤ))) (front : ℕ) (to : ℤ) (assigned : List ℤ) → AllByRecursion (IsTermOf (length ds)) xs → Within ds assigned → IsFront a xs ds front a.start to
    → IsAcceptedAt a xs assigned ↔ IsAcceptedAt (started a to) (drop front xs) assigned
front_truth a xs ds front to assigned terms within h = front_runs a xs ds front a.start to assigned terms within h

-- ---- lists within the domains

word_more : (a : Automaton) (x : Term) (xs : List Term) (ds : List (List (ℤ × ℤ))) (n from next : ℤ) (word : List ℤ) → IsOnly (term_set ds x) n → IsState a from → IsStep a from n next
    → IsLeftWord (started a next) xs ds word → IsLeftWord (started a from) (x ∷ xs) ds (n ∷ word)
word_more a x xs ds n from next word only state step h = record {
  accepted = (stepped a from n next word state step).1 h.accepted;
  within = record {
    size = (let same = h.within.size in omega (arith, same));
    each = each;
  };
}
  where
    each : (j : ℕ) (t : Term) (m : ℤ) → slice_get (x ∷ xs) j ≡ Some t → slice_get (n ∷ word) j ≡ Some m → IsInSet (term_set ds t) m
    each zero t m at_t at_m = subst (λ (u : Term). IsInSet (term_set ds u) m) (some_is x t at_t) (subst (λ (d : List (ℤ × ℤ)). IsInSet d m) (sym only) (in_single m n (sym (some_is n m at_m))))
    each (suc j) t m at_t at_m = h.within.each j t m at_t at_m

line_more : (a : Automaton) (x : Term) (xs : List Term) (ds : List (List (ℤ × ℤ))) (n from next : ℤ) → IsOnly (term_set ds x) n → IsState a from → IsStep a from n next
    → IsRegularLine (started a next) xs ds → IsRegularLine (started a from) (x ∷ xs) ds
line_more a x xs ds n from next only state step h = record {
  some = (n ∷ h.some.0, word_more a x xs ds n from next h.some.0 only state step h.some.1);
  supported = supported;
}
  where
    supported : (j : ℕ) (t : Term) (m : ℤ) → slice_get (x ∷ xs) j ≡ Some t → IsInSet (term_set ds t) m → IsInLeftWord (started a from) (x ∷ xs) ds j m
    supported zero t m at is =
        let here : m ≡ n = only_in (term_set ds x) n m only (subst (λ (u : Term). IsInSet (term_set ds u) m) (sym (some_is x t at)) is) in
        (n ∷ h.some.0, word_more a x xs ds n from next h.some.0 only state step h.some.1, ap (λ (k : ℤ). Some k) (sym here))
    supported (suc j) t m at is = let w = h.supported j t m at is in (n ∷ w.0, word_more a x xs ds n from next w.0 only state step w.1, w.2)

front_line : (a : Automaton) (xs : List Term) (ds : List (List (ℤ × ℤ))) (front : ℕ) (from to : ℤ) → IsFront a xs ds front from to → IsRegularLine (started a to) (drop front xs) ds
    → IsRegularLine (started a from) xs ds
front_line a xs ds zero from to h line = subst (λ (p : ℤ). IsRegularLine (started a p) xs ds) (sym h) line
front_line a [] ds (suc front) from to h line = absurd h
front_line a (x ∷ xs) ds (suc front) from to h line = line_more a x xs ds h.0 from h.1 h.2 h.3 h.4 (front_line a xs ds front h.1 to h.5 line)

-- ---- a run over the rest

pub front_correct : (a : Automaton) (xs : List Term) (ds es : List (List (ℤ × ℤ))) (front : ℕ) (to : ℤ) → AllByRecursion (IsTermOf (length ds)) xs → IsFront a xs ds front a.start to
    → IsCorrectOf (IsAcceptedAt (started a to) (drop front xs)) ds es → IsCorrectOf (IsAcceptedAt a xs) ds es
front_correct a xs ds es front to terms h correct = λ assigned holds within. correct assigned ((front_truth a xs ds front to assigned terms within h).0 holds) within

terms_narrower : (xs : List Term) (ds es : List (List (ℤ × ℤ))) → IsNarrower ds es → AllByRecursion (IsTermOf (length ds)) xs → AllByRecursion (IsTermOf (length es)) xs
terms_narrower xs ds es narrower terms = subst (λ (n : ℕ). AllByRecursion (IsTermOf n) xs) (sym narrower.size) terms

pub front_answer : (answer : Answer) (a : Automaton) (xs : List Term) (ds es : List (List (ℤ × ℤ))) (front : ℕ) (to : ℤ) → AllByRecursion (IsTermOf (length ds)) xs → AreDomains es → IsNarrower ds es
    → IsFront a xs ds front a.start to → IsAnswerOf answer (IsAcceptedAt (started a to) (drop front xs)) (IsRegularLine (started a to) (drop front xs)) ds es
    → IsAnswerOf answer (IsAcceptedAt a xs) (IsRegularLine a xs) ds es
front_answer Fix a xs ds es front to terms domains narrower h is = front_line a xs es front a.start to (front_still a xs ds es front a.start to terms domains narrower h) is
front_answer NoFix a xs ds es front to terms domains narrower h is = is
front_answer Subsumed a xs ds es front to terms domains narrower h is = (
  (λ assigned within. (front_truth a xs ds front to assigned terms (within_before ds es assigned narrower within) h).1 (is.0 assigned within)),
  (λ fs filled less.
      let whole = narrower_twice ds es fs narrower less in
      front_line a xs fs front a.start to (front_still a xs ds fs front a.start to terms filled whole h) (is.1 fs filled less)),
)
front_answer Failed a xs ds es front to terms domains narrower h is = λ assigned within holds. is assigned within ((front_truth a xs ds front to assigned terms within h).0 holds)

-- ---- of the rest of lists

pub all_dropped : {X : Type 0} (P : X → Type 0) (front : ℕ) (xs : List X) → AllByRecursion P xs → AllByRecursion P (drop front xs)
all_dropped P zero xs all = all
all_dropped P (suc front) [] all = tt
all_dropped P (suc front) (x ∷ xs) all = all_dropped P front xs all.1

apart_rest : (x : Term) (xs : List Term) → AreApart (x ∷ xs) → AreApart xs
apart_rest x xs apart = λ j k v at_j at_k. (let same = apart (suc j) (suc k) v at_j at_k in omega (arith, same))

pub apart_dropped : (front : ℕ) (xs : List Term) → AreApart xs → AreApart (drop front xs)
apart_dropped zero xs apart = apart
apart_dropped (suc front) [] apart = apart
apart_dropped (suc front) (x ∷ xs) apart = apart_dropped front xs (apart_rest x xs apart)

-- ---- the next state

pub step_by : (a : Automaton) (p k : ℕ) (value : ℤ) (o : Option ℕ) → IsState a (number p) → value ≡ number k → MatchOption o ((r : ℕ) → LeadsTo a p k r → ⊥) (λ r. LeadsTo a p k r)
    → MatchOption o ((r : ℤ) → IsStep a (number p) value r → IsState a r → ⊥) (λ r. IsStep a (number p) value (number r) × IsState a (number r))
step_by a p k value None state is h = λ r step to.
    let n = counted r to.0 in
    h n.0 (record { from = state; step = subst (λ (v : ℤ). IsStep a (number p) v (number n.0)) is (subst (IsStep a (number p) value) n.1 step); to = subst (IsState a) n.1 to })
step_by a p k value (Some r) state is h = (subst (λ (v : ℤ). IsStep a (number p) v (number r)) (sym is) h.step, h.to)

drop_at : (xs : List Term) (front : ℕ) (t : Term) → slice_get xs front ≡ Some t → drop front xs ≡ t ∷ drop (suc front) xs
drop_at [] front t at = absurd (cc (at))
drop_at (x ∷ xs) zero t at = ap (λ (u : Term). u ∷ xs) (some_is x t at)
drop_at (x ∷ xs) (suc front) t at = drop_at xs front t at

-- nothing is accepted where no state comes after the numbers at the front
pub front_ends : (a : Automaton) (xs : List Term) (ds : List (List (ℤ × ℤ))) (front : ℕ) (from to value : ℤ) (t : Term) (assigned : List ℤ) → AllByRecursion (IsTermOf (length ds)) xs → Within ds assigned
    → IsFront a xs ds front from to → slice_get xs front ≡ Some t → IsOnly (term_set ds t) value → ((r : ℤ) → IsStep a to value r → IsState a r → ⊥) → RunsFrom a from (term_values assigned xs) → ⊥
front_ends a xs ds front from to value t assigned terms within h at only none runs =
    let rest = (front_runs a xs ds front from to assigned terms within h).0 runs in
    let here : RunsFrom a to (term_value assigned t ∷ term_values assigned (drop (suc front) xs)) = subst (λ (us : List Term). RunsFrom a to (term_values assigned us)) (drop_at xs front t at) rest in
    let first = begun a to (term_value assigned t) (term_values assigned (drop (suc front) xs)) here in
    let value_is = only_in (term_set ds t) value (term_value assigned t) only (term_within ds assigned t (all_at (IsTermOf (length ds)) xs front t terms at) within) in
    none first.0 (subst (λ (n : ℤ). IsStep a to n first.0) value_is first.2) (run_state a first.0 first.3.0 (term_values assigned (drop (suc front) xs)) first.3.1)

-- ---- steps, from wherever it starts

leads_started : (a : Automaton) (start : ℤ) (p k r : ℕ) → LeadsTo a p k r ↔ LeadsTo (started a start) p k r
leads_started a start p k r = ((λ h. record { from = h.from; step = h.step; to = h.to }), (λ h. record { from = h.from; step = h.step; to = h.to }))

pub next_started : (a : Automaton) (start : ℤ) (p k : ℕ) (o : Option ℕ) → MatchOption o ((r : ℕ) → LeadsTo a p k r → ⊥) (λ r. LeadsTo a p k r)
    → MatchOption o ((r : ℕ) → LeadsTo (started a start) p k r → ⊥) (λ r. LeadsTo (started a start) p k r)
next_started a start p k None h = λ r leads. h r ((leads_started a start p k r).1 leads)
next_started a start p k (Some r) h = (leads_started a start p k r).0 h

pub symbol_started : (a : Automaton) (start : ℤ) (b : BitRows) (row p from : ℕ) (o : Option ℕ)
    → MatchOption o ((k : ℕ) → from ≤ k → LeadsBy a b row p k → ⊥) (λ k. IsNext (LeadsBy a b row p) from k)
    → MatchOption o ((k : ℕ) → from ≤ k → LeadsBy (started a start) b row p k → ⊥) (λ k. IsNext (LeadsBy (started a start) b row p) from k)
symbol_started a start b row p from o h =
    next_as (LeadsBy a b row p) (LeadsBy (started a start) b row p) from o
    (λ k. ((λ w. (w.0, (w.1.0, (leads_started a start p k w.1.0).0 w.1.1))), (λ w. (w.0, (w.1.0, (leads_started a start p k w.1.0).1 w.1.1))))) h
