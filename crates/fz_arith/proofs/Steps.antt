-- Keeping the terms of an equation between their bounds, one after the other.
use Rattle.std.proofs.Common.{◌≡◌, ◌≢◌, ◌<◌, ◌≤◌, ◌+◌, ℕ, suc, List, [], ◌∷◌, refl, sym, ap, subst, ◌∙◌, arith, length, inl, inr, Bool, true, false, Result, Ok, Err}
use Rattle.std.specs.Prelude.{ℤ, pos, ◌||◌, ◌↔◌, IsTrue, slice_get, Some, OnErr, IfOk}
use Rattle.std.specs.List.{AllByRecursion}
use Rattle.std.proofs.lemmas.Bool.{cases_eq}
use Rattle.std.proofs.lemmas.List.{length-map}
use Rattle.std.proofs.lemmas.Option.{slice_get_within}
use Rattle.fz_sets.specs.Sets.{IsInSet}
use Rattle.fz_dom.specs.Changes.{IsFromTo}
use Rattle.fz_dom.specs.declared.change.Change.{Change}
use Rattle.fz_dom.specs.declared.change.Change.TheVariants.{Same, Changed, Wiped}
use Rattle.fz_dom.proofs.Ranges.{least_member, greatest_member}
use Rattle.fz_dom.proofs.Kept.{limits_of}
use Rattle.fz_spec.specs.declared.term.Term.{Term}
use Rattle.fz_spec.specs.Constraints.{term_value, term_values}
use Rattle.fz_strength.specs.declared.event.Event.{Event}
use Rattle.fz_strength.specs.declared.event.Event.TheVariants.{Bound}
use Rattle.fz_spec.specs.declared.shape.Operation.{Operation}
use Rattle.fz_spec.specs.declared.shape.Operation.TheVariants.{Quotient, Remainder}
use Rattle.fz_strength.specs.declared.bounds.Bounds.{Bounds}
use Rattle.fz_strength.specs.Domains.{dom_at, term_set, AreDomains, Within, IsNarrower, IsTermOf}
use Rattle.fz_strength.specs.Events.{IsOnly, AllFixed, AreSingle, IsQuiet}
use Rattle.fz_spec.specs.Truth.{IsResult}
use Rattle.fz_strength.specs.Operations.{Equation, equation_terms, EquationTruth, bounds_of, operand_event, IsBounded, IsEquationLine, LacksZero, divisors_of}
use Rattle.fz_strength.proofs.Clauses.{all_unmap}
use Rattle.fz_sets.proofs.Lists.{all_at}
use Rattle.fz_strength.proofs.Terms.{AreQuietAt, quiet_self}
use Rattle.fz_strength.proofs.OperationLaws.{bounds_terms, equation_kept, equation_alone}
use Rattle.fz_prop.specs.Answers.{IsAnswerOf, IsCorrectOf}
use Rattle.fz_prop.specs.Stores.{Stored, Shrinks, IsChangeAt, IsTermChange}
use Rattle.fz_prop.proofs.Answering.{correct_twice}
use Rattle.fz_prop.proofs.Filled.{term_ranges, still_only}
use Rattle.fz_prop.proofs.TermChanges.{term_within, only_in, within_kept, kept_term, none_kept, same_store, falls_of}
use Rattle.fz_prop.proofs.Twice.{shrinks_twice, room_after}
use Rattle.fz_prop.specs.Outcomes.{rested_by}
use Rattle.fz_arith.specs.Narrowing.{LiesBetween, IsClamped, IsBoundedAt, IsDivided, IsStep, AreSteps}
use Rattle.fz_arith.proofs.Between.{all_spanned, all_between}

-- ---- a change by bounds of 32 bits

-- a change by another property that says the same of what is left
change_within : (change : Change) (v : ℕ) (P Q : ℤ → Type 0) (s t : Stored) → ((x : ℤ) → IsInSet (dom_at s.doms v) x → P x ↔ Q x) → IsChangeAt change v P s t → IsChangeAt change v Q s t
change_within Same v P Q s t f h = (h.0, λ x i. (f x i).0 (h.1 x i))
change_within Wiped v P Q s t f h = (h.0, λ x i q. h.1 x i ((f x i).1 q))
change_within Changed v P Q s t f h = record {
  kept = λ x. ((λ i. let k = (h.kept x).0 i in (k.0, (f x k.0).0 k.1)), (λ k. (h.kept x).1 (k.0, (f x k.0).1 k.1)));
  others = h.others;
  whole = h.whole;
  smaller = h.smaller;
  filled = h.filled;
  falls = h.falls;
}

pub change_clamped : (change : Change) (v : ℕ) (low high l h : ℤ) (s t : Stored) → AreDomains s.doms → v < length s.doms → IsClamped low l → IsClamped high h
    → IsChangeAt change v (λ x. IsFromTo l h x) s t → IsChangeAt change v (λ x. IsFromTo low high x) s t
change_clamped change v low high l h s t domains inside at_low at_high changed =
    change_within change v (λ x. IsFromTo l h x) (λ x. IsFromTo low high x) s t (λ x is.
    let limits = limits_of (dom_at s.doms v) x (domains v inside).0 is in (
      (λ b. ((at_low.from x limits).0 b.0, (at_high.to x limits).0 b.1)),
      (λ b. ((at_low.from x limits).1 b.0, (at_high.to x limits).1 b.1)),
    )) changed

-- ---- one step

-- what holds of each term of an equation holds of the term of each of its bounds
at_bounds : (P : Term → Type 0) (e : Equation) (ds : List (List (ℤ × ℤ))) (i : ℕ) (b : Bounds) → slice_get (bounds_of e ds) i ≡ Some b → AllByRecursion P (equation_terms e) → P b.term
at_bounds P e ds i b at all =
    all_at (λ (c : Bounds). P c.term) (bounds_of e ds) i b (all_unmap P (λ (c : Bounds). c.term) (bounds_of e ds) (subst (AllByRecursion P) (sym (bounds_terms e ds)) all)) at

pub bounds_term : (e : Equation) (ds : List (List (ℤ × ℤ))) (i : ℕ) (b : Bounds) → slice_get (bounds_of e ds) i ≡ Some b → AllByRecursion (IsTermOf (length ds)) (equation_terms e)
    → IsTermOf (length ds) b.term
bounds_term e ds i b at are = at_bounds (IsTermOf (length ds)) e ds i b at are

between_at : (e : Equation) (ds : List (List (ℤ × ℤ))) (i : ℕ) (b : Bounds) (a : List ℤ) → slice_get (bounds_of e ds) i ≡ Some b → AreDomains ds → AllByRecursion (IsTermOf (length ds)) (equation_terms e)
    → Within ds a → EquationTruth e a → LiesBetween a b
between_at e ds i b a at domains are within holds = all_at (LiesBetween a) (bounds_of e ds) i b (all_between e ds a (all_spanned ds a (equation_terms e) domains within are) holds) at

bounded_here : (b : Bounds) (r s : Stored) → AreDomains r.doms → IsTermOf (length r.doms) b.term → IsTermChange Same b.term (λ x. IsFromTo b.low b.high x) r s → IsBounded r.doms b
bounded_here b r s domains is h =
    let ranges = term_ranges r.doms b.term is domains in
    let d = term_set r.doms b.term in
    let lies : (x : ℤ) → IsInSet d x → IsFromTo b.low b.high x = λ x i.
    (kept_term Same b.term (λ y. IsFromTo b.low b.high y) r s h (λ e. cc (e)) x (subst (λ (u : Stored). IsInSet (term_set u.doms b.term) x) (sym (same_store b.term (λ y. IsFromTo b.low b.high y) r s h)) i)).1 in
    ((lies _ (least_member d ranges.some ranges.ranges).0).0, (lies _ (greatest_member d ranges.some ranges.ranges).0).1)

pub step_is : (change : Change) (e : Equation) (i : ℕ) (b : Bounds) (r s : Stored) → slice_get (bounds_of e r.doms) i ≡ Some b → AreDomains r.doms
    → AllByRecursion (IsTermOf (length r.doms)) (equation_terms e) → IsTermChange change b.term (λ x. IsFromTo b.low b.high x) r s → IsStep change e i r s
step_is Same e i b r s at domains are h = (
  same_store b.term (λ x. IsFromTo b.low b.high x) r s h,
  λ c at_c. let same : b ≡ c = cc (at, at_c) in subst (IsBounded r.doms) same (bounded_here b r s domains (bounds_term e r.doms i b at are) h),
)
step_is Changed e i b r s at domains are h = falls_of b.term (λ x. IsFromTo b.low b.high x) r s h
step_is Wiped e i b r s at domains are h = λ a within holds.
    none_kept b.term (λ x. IsFromTo b.low b.high x) r s h (term_value a b.term) (term_within r.doms a b.term (bounds_term e r.doms i b at are) within)
    (between_at e r.doms i b a at domains are within holds)

pub step_correct : (change : Change) (e : Equation) (i : ℕ) (b : Bounds) (r s : Stored) → slice_get (bounds_of e r.doms) i ≡ Some b → AreDomains r.doms
    → AllByRecursion (IsTermOf (length r.doms)) (equation_terms e) → IsTermChange change b.term (λ x. IsFromTo b.low b.high x) r s → Shrinks r s → IsCorrectOf (EquationTruth e) r.doms s.doms
step_correct change e i b r s at domains are h shrinks = λ a holds within.
    within_kept change b.term (λ x. IsFromTo b.low b.high x) r s a h shrinks within (between_at e r.doms i b a at domains are within holds)

pub step_correct_of : {E : Type 0} (o : Result Change E) (e : Equation) (i : ℕ) (b : Bounds) (r s : Stored) → slice_get (bounds_of e r.doms) i ≡ Some b → AreDomains r.doms
    → AllByRecursion (IsTermOf (length r.doms)) (equation_terms e) → OnErr o (s ≡ r) → IfOk o (λ change. IsTermChange change b.term (λ x. IsFromTo b.low b.high x) r s) → Shrinks r s
    → IsCorrectOf (EquationTruth e) r.doms s.doms
step_correct_of {E} (Ok change) e i b r s at domains are err h shrinks = step_correct change e i b r s at domains are h shrinks
step_correct_of {E} (Err error) e i b r s at domains are err h shrinks = λ a holds within. subst (λ (u : Stored). Within u.doms a) (sym err) within

-- ---- the divisor

divisor_not_zero : (operation : Operation) (xs : List Term) (v : ℤ) (a : List ℤ) (y : Term) → divisors_of operation xs ≡ y ∷ [] → IsResult operation (term_values a xs) v → term_value a y ≢ pos 0
divisor_not_zero Quotient (x ∷ w ∷ []) v a y is holds = let same : w ≡ y = cc in subst (λ (t : Term). term_value a t ≢ pos 0) same holds.0
divisor_not_zero Remainder (x ∷ w ∷ []) v a y is holds = let same : w ≡ y = cc in subst (λ (t : Term). term_value a t ≢ pos 0) same holds.0
divisor_not_zero operation xs v a y is holds = absurd (cc (is))

divisor_all : (P : Term → Type 0) (operation : Operation) (xs : List Term) (y : Term) → divisors_of operation xs ≡ y ∷ [] → AllByRecursion P xs → P y
divisor_all P Quotient (x ∷ w ∷ []) y is all = let same : w ≡ y = cc in subst P same all.1.0
divisor_all P Remainder (x ∷ w ∷ []) y is all = let same : w ≡ y = cc in subst P same all.1.0
divisor_all P operation xs y is all = absurd (cc (is))

pub divisor_term : (e : Equation) (n : ℕ) (y : Term) → divisors_of e.operation e.operands ≡ y ∷ [] → AllByRecursion (IsTermOf n) e.operands → IsTermOf n y
divisor_term e n y is are = divisor_all (IsTermOf n) e.operation e.operands y is are

pub divided_is : (change : Change) (e : Equation) (y : Term) (r s : Stored) → divisors_of e.operation e.operands ≡ y ∷ [] → AllByRecursion (IsTermOf (length r.doms)) e.operands
    → IsTermChange change y (λ x. x ≢ pos 0) r s → IsDivided change e r s
divided_is Same e y r s is are h =
    let same = same_store y (λ x. x ≢ pos 0) r s h in
    let lacks : LacksZero r.doms y = λ zero. (kept_term Same y (λ x. x ≢ pos 0) r s h (λ e. cc (e)) (pos 0) (subst (λ (u : Stored). IsInSet (term_set u.doms y) (pos 0)) (sym same) zero)).1 refl in
    (same, subst (AllByRecursion (LacksZero r.doms)) (sym is) (lacks, tt))
divided_is Changed e y r s is are h = falls_of y (λ x. x ≢ pos 0) r s h
divided_is Wiped e y r s is are h = λ a within holds.
    none_kept y (λ x. x ≢ pos 0) r s h (term_value a y) (term_within r.doms a y (divisor_term e (length r.doms) y is are) within)
    (divisor_not_zero e.operation e.operands (term_value a e.result) a y is holds)

pub divided_correct : {E : Type 0} (o : Result Change E) (e : Equation) (y : Term) (r s : Stored) → divisors_of e.operation e.operands ≡ y ∷ [] → OnErr o (s ≡ r)
    → IfOk o (λ change. IsTermChange change y (λ x. x ≢ pos 0) r s) → Shrinks r s → IsCorrectOf (EquationTruth e) r.doms s.doms
divided_correct {E} (Ok change) e y r s is err h shrinks = λ a holds within.
    within_kept change y (λ x. x ≢ pos 0) r s a h shrinks within (divisor_not_zero e.operation e.operands (term_value a e.result) a y is holds)
divided_correct {E} (Err error) e y r s is err h shrinks = λ a holds within. subst (λ (u : Stored). Within u.doms a) (sym err) within

-- ---- steps

-- The terms before a place were kept between their bounds.
pub record IsNarrowing (e : Equation) (r s : Stored) (i : ℕ) (changed : Bool) : Type 0 where
  pub shrinks : Shrinks r s
  pub correct : IsCorrectOf (EquationTruth e) r.doms s.doms
  pub steps : AreSteps changed e i r s
  pub divides : changed ≡ false → AllByRecursion (LacksZero r.doms) (divisors_of e.operation e.operands)

pub narrowing_first : (now : Bool) (change : Change) (e : Equation) (r s : Stored) → (change ≡ Wiped → ⊥) → ((now ≡ true) ↔ (change ≡ Changed)) → Shrinks r s
    → IsCorrectOf (EquationTruth e) r.doms s.doms → IsDivided change e r s → IsNarrowing e r s 0 now
narrowing_first now Wiped e r s not told shrinks correct divided = absurd (not refl)
narrowing_first true Same e r s not told shrinks correct divided = let f = told.0 refl in absurd (cc (f))
narrowing_first false Same e r s not told shrinks correct divided =
    record { shrinks = shrinks; correct = correct; steps = (divided.0, λ j below. absurd (omega (arith, below))); divides = λ same. divided.1 }
narrowing_first false Changed e r s not told shrinks correct divided = let f = told.1 refl in absurd (cc (f))
narrowing_first true Changed e r s not told shrinks correct divided = record { shrinks = shrinks; correct = correct; steps = divided; divides = λ same. absurd (cc (same)) }

none_changed : (changed now : Bool) → (changed || now) ≡ false → changed ≡ false
none_changed true now e = absurd (cc (e))
none_changed false now e = refl

steps_more : (changed now : Bool) (change : Change) (e : Equation) (r s t : Stored) (i : ℕ) → (change ≡ Wiped → ⊥) → ((now ≡ true) ↔ (change ≡ Changed)) → Shrinks r s → Shrinks s t
    → AreSteps changed e i r s → IsStep change e i s t → AreSteps (changed || now) e (i + 1) r t
steps_more changed now Wiped e r s t i not told before after steps step = absurd (not refl)
steps_more true now Same e r s t i not told before after steps step = let f = room_after s t after in omega (arith, f, steps)
steps_more true now Changed e r s t i not told before after steps step = let f = room_after s t after in omega (arith, f, steps)
steps_more false true Same e r s t i not told before after steps step = let f = told.0 refl in absurd (cc (f))
steps_more false false Same e r s t i not told before after steps step =
    let here : IsBoundedAt e r.doms i = subst (λ (u : Stored). IsBoundedAt e u.doms i) steps.0 step.1 in (
      step.0 ∙ steps.0,
      λ j below. elim (cases_eq j i) [ inl same ↦ subst (IsBoundedAt e r.doms) (sym same) here | inr other ↦ steps.1 j (omega (arith, below, other)) ],
    )
steps_more false false Changed e r s t i not told before after steps step = let f = told.1 refl in absurd (cc (f))
steps_more false true Changed e r s t i not told before after steps step = let f = room_after r s before in omega (arith, f, step)

pub narrowing_more : (changed now : Bool) (change : Change) (e : Equation) (r s t : Stored) (i : ℕ) → (change ≡ Wiped → ⊥) → ((now ≡ true) ↔ (change ≡ Changed)) → Shrinks s t
    → IsCorrectOf (EquationTruth e) s.doms t.doms → IsStep change e i s t → IsNarrowing e r s i changed → IsNarrowing e r t (i + 1) (changed || now)
narrowing_more changed now change e r s t i not told shrinks correct step so_far = record {
  shrinks = shrinks_twice r s t so_far.shrinks shrinks;
  correct = correct_twice (EquationTruth e) r.doms s.doms t.doms so_far.correct correct;
  steps = steps_more changed now change e r s t i not told so_far.shrinks shrinks so_far.steps step;
  divides = λ same. so_far.divides (none_changed changed now same);
}

-- ---- the end

bounded_all : (ds : List (List (ℤ × ℤ))) (bs : List Bounds) → ((j : ℕ) (b : Bounds) → slice_get bs j ≡ Some b → IsBounded ds b) → AllByRecursion (IsBounded ds) bs
bounded_all ds [] each = tt
bounded_all ds (b ∷ bs) each = (each 0 b refl, bounded_all ds bs (λ j c at. each (suc j) c at))

-- all places are passed and nothing changed
line_now : (e : Equation) (ds : List (List (ℤ × ℤ))) (n : ℕ) → length (bounds_of e ds) ≤ n → ((j : ℕ) → j < n → IsBoundedAt e ds j) → AllByRecursion (LacksZero ds) (divisors_of e.operation e.operands) → IsEquationLine e ds
line_now e ds n passed each divides = record { divides = divides; bounded = bounded_all ds (bounds_of e ds) (λ j b at. each j (let inside = slice_get_within (bounds_of e ds) j b at in omega (arith, passed, inside)) b at) }

bounds_length : (e : Equation) (ds : List (List (ℤ × ℤ))) → length (bounds_of e ds) ≡ length (equation_terms e)
bounds_length e ds = sym (length-map (bounds_of e ds) (λ (b : Bounds). b.term)) ∙ ap length (bounds_terms e ds)

-- the numbers of an assignment are those that alone are left
singles : (ds : List (List (ℤ × ℤ))) (a : List ℤ) (ts : List Term) → Within ds a → AllByRecursion (IsTermOf (length ds)) ts → AllFixed ds ts → AreSingle ds a ts
singles ds a [] within are fixed = tt
singles ds a (t ∷ ts) within are fixed =
    let x = fixed.0.0 in
    let same : x ≡ term_value a t = sym (only_in (term_set ds t) x (term_value a t) fixed.0.1 (term_within ds a t are.0 within)) in
    (subst (IsOnly (term_set ds t)) same fixed.0.1, singles ds a ts within are.1 fixed.1)

-- what is fixed stays as it is
fixed_quiet : (event : Event) (ds es : List (List (ℤ × ℤ))) (ts : List Term) → AllByRecursion (IsTermOf (length ds)) ts → AllFixed ds ts → AreDomains es → IsNarrower ds es → AreQuietAt event ds es ts
fixed_quiet event ds es [] are fixed domains narrower = tt
fixed_quiet event ds es (t ∷ ts) are fixed domains narrower =
    let still = still_only ds es t fixed.0.0 are.0 fixed.0.1 domains narrower in
    let same : term_set es t ≡ term_set ds t = still ∙ sym fixed.0.1 in
    (subst (IsQuiet event (term_set ds t)) (sym same) (quiet_self event (term_set ds t)), fixed_quiet event ds es ts are.1 fixed.1 domains narrower)

subsumed : (e : Equation) (ds : List (List (ℤ × ℤ))) → AllByRecursion (IsTermOf (length ds)) (equation_terms e) → AllFixed ds (equation_terms e) → IsEquationLine e ds
    → ((a : List ℤ) → Within ds a → EquationTruth e a) × ((es : List (List (ℤ × ℤ))) → AreDomains es → IsNarrower ds es → IsEquationLine e es)
subsumed e ds are fixed line = (
  (λ a within. equation_alone e ds a (singles ds a (equation_terms e) within are fixed) line),
  (λ es domains narrower. equation_kept e ds es narrower (fixed_quiet Bound ds es (e.result ∷ []) (are.0, tt) (fixed.0, tt) domains narrower).0 (fixed_quiet (operand_event e.operation) ds es e.operands are.1 fixed.1 domains narrower) line),
)

pub rested_answer : (fixed changed : Bool) (e : Equation) (r s : Stored) (n : ℕ) → length (equation_terms e) ≤ n → AllByRecursion (IsTermOf (length r.doms)) (equation_terms e)
    → IsNarrowing e r s n changed → changed ≡ false → IsTrue fixed ↔ AllFixed s.doms (equation_terms e) → IsAnswerOf (rested_by fixed) (EquationTruth e) (IsEquationLine e) r.doms s.doms
rested_answer fixed true e r s n passed are h same told = absurd (cc (same))
rested_answer false false e r s n passed are h same told =
    subst (λ (u : Stored). IsEquationLine e u.doms) (sym h.steps.0) (line_now e r.doms n (omega (arith, passed, bounds_length e r.doms)) h.steps.1 (h.divides refl))
rested_answer true false e r s n passed are h same told =
    let line = subst (λ (u : Stored). IsEquationLine e u.doms) (sym h.steps.0) (line_now e r.doms n (omega (arith, passed, bounds_length e r.doms)) h.steps.1 (h.divides refl)) in
    subsumed e s.doms (subst (λ (u : Stored). AllByRecursion (IsTermOf (length u.doms)) (equation_terms e)) (sym h.steps.0) are) (told.0 refl) line

-- the line holds of a store that stays
pub rested_line : (fixed : Bool) (e : Equation) (before : List (List (ℤ × ℤ))) (s : Stored) → AllByRecursion (IsTermOf (length s.doms)) (equation_terms e) → IsEquationLine e s.doms
    → IsTrue fixed ↔ AllFixed s.doms (equation_terms e) → IsAnswerOf (rested_by fixed) (EquationTruth e) (IsEquationLine e) before s.doms
rested_line false e before s are line told = line
rested_line true e before s are line told = subsumed e s.doms are (told.0 refl) line
