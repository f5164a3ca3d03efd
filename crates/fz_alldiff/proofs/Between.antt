-- Terms at both ends that have no number in common with any other, and those between.
use Rattle.std.proofs.Common.{◌≡◌, ◌≢◌, ◌<◌, ◌≤◌, ℕ, zero, suc, ◌+◌, ◌-◌, List, [], ◌∷◌, refl, sym, subst, ◌∙◌, ap, arith, length, ◌⊎◌, inl, inr, take, drop}
use Rattle.std.specs.Prelude.{ℤ, slice_get, slice_range, Some, Result, Ok, Err}
use Rattle.std.specs.List.{AllByRecursion}
use Rattle.std.proofs.lemmas.Bool.{cases_eq, cases_lt}
use Rattle.fz_sets.specs.Sets.{IsInSet}
use Rattle.fz_spec.specs.declared.term.Term.{Term}
use Rattle.fz_spec.specs.Constraints.{term_value}
use Rattle.fz_sets.proofs.Lists.{all_at}
use Rattle.fz_strength.specs.Differences.{AreApart}
use Rattle.fz_strength.specs.Domains.{term_set, Within, IsNarrower, IsTermOf}
use Rattle.fz_strength.specs.Events.{IsOnly}
use Rattle.fz_prop.specs.Told.{AreEndsDone, IsAlone}
use Rattle.fz_prop.proofs.Lasting.{alone_lasts}
use Rattle.fz_prop.specs.declared.answer.Answer.{Answer}
use Rattle.fz_prop.specs.declared.answer.Answer.TheVariants.{Fix, NoFix, Subsumed, Failed}
use Rattle.fz_prop.specs.Answers.{IsAnswerOf, Narrows}
use Rattle.fz_prop.specs.Stores.{Stored}
use Rattle.fz_prop.proofs.TermChanges.{term_within, only_in}
use Rattle.fz_alldiff.specs.Differing.{IsDifferent}
use Rattle.fz_alldiff.specs.Ends.{AreAloneBelow, AreAloneBehind, IsBetween}
use Rattle.fz_alldiff.proofs.Clearing.{has_only, same_term}
use Rattle.fz_alldiff.proofs.Removing.{different_at}
use Rattle.fz_alldiff.proofs.Filling.{different_pairs}

-- ---- the terms between

get_drop : (ts : List Term) (s i : ℕ) → slice_get (drop s ts) i ≡ slice_get ts (s + i)
get_drop ts zero i = let e : i ≡ 0 + i = omega arith in ap (slice_get ts) e
get_drop [] (suc s) i = refl
get_drop (t ∷ ts) (suc s) i = let e : suc (s + i) ≡ suc s + i = omega arith in get_drop ts s i ∙ ap (slice_get (t ∷ ts)) e

get_take : (ts : List Term) (n i : ℕ) → i < n → slice_get (take n ts) i ≡ slice_get ts i
get_take ts zero i below = absurd (omega (arith, below))
get_take [] (suc n) zero below = refl
get_take [] (suc n) (suc i) below = refl
get_take (t ∷ ts) (suc n) zero below = refl
get_take (t ∷ ts) (suc n) (suc i) below = get_take ts n i (omega (arith, below))

taken_at : (ts : List Term) (n i : ℕ) (t : Term) → slice_get (take n ts) i ≡ Some t → slice_get ts i ≡ Some t
taken_at ts zero i t at = absurd (cc (at))
taken_at [] (suc n) i t at = at
taken_at (u ∷ ts) (suc n) zero t at = at
taken_at (u ∷ ts) (suc n) (suc i) t at = taken_at ts n i t at

pub between_none : (ts : List Term) (front back : ℕ) → length ts ≤ front + back → IsBetween ts front back []
between_none ts front back none = record {
  inside = λ i t at. absurd (cc (at));
  all = λ i t from to at. absurd (omega (arith, none, from, to));
}

pub between_ends : (ts : List Term) (front back : ℕ) → IsBetween ts front back (slice_range ts front (length ts - back))
between_ends ts front back =
    let n = length ts - back - front in
    record {
      inside = λ i t at. sym (get_drop ts front i) ∙ taken_at (drop front ts) n i t at;
      all = λ i t from to at.
          let e : front + (i - front) ≡ i = omega (arith, from) in
          get_take (drop front ts) n (i - front) (omega (arith, from, to)) ∙ get_drop ts front (i - front) ∙ ap (slice_get ts) e ∙ at;
    }

every : (P : Term → Type 0) (ts : List Term) → ((i : ℕ) (t : Term) → slice_get ts i ≡ Some t → P t) → AllByRecursion P ts
every P [] each = tt
every P (t ∷ ts) each = (each 0 t refl, every P ts (λ i u at. each (suc i) u at))

pub part_terms : (P : Term → Type 0) (ts part : List Term) (front back : ℕ) → IsBetween ts front back part → AllByRecursion P ts → AllByRecursion P part
part_terms P ts part front back h all = every P part (λ i t at. all_at P ts (front + i) t all (h.inside i t at))

-- ---- the ends move

-- where the line holds, a fixed term has no number in common with another
alone_fixed : (ts : List Term) (ds : List (List (ℤ × ℤ))) (i : ℕ) (t : Term) (n : ℤ) → AreApart ts ds → slice_get ts i ≡ Some t → IsOnly (term_set ds t) n → IsAlone ts ds i t
alone_fixed ts ds i t n apart at only = λ j u other at_j m here there.
    apart i j t u (λ e. other (sym e)) at at_j n only (subst (IsInSet (term_set ds u)) (only_in (term_set ds t) n m only here) there)

alone_at : (ts : List Term) (ds : List (List (ℤ × ℤ))) (i k : ℕ) (u t : Term) (n : ℤ) → AreApart ts ds → i ≡ k → slice_get ts i ≡ Some u → slice_get ts k ≡ Some t
    → IsOnly (term_set ds t) n → IsAlone ts ds i u
alone_at ts ds i k u t n apart e at_i at only =
    let same : t ≡ u = same_term ts k t u at (subst (λ (q : ℕ). slice_get ts q ≡ Some u) e at_i) in
    alone_fixed ts ds i u n apart at_i (subst (λ (z : Term). IsOnly (term_set ds z) n) same only)

pub alone_more : (ts : List Term) (ds : List (List (ℤ × ℤ))) (k : ℕ) (t : Term) (n : ℤ) → AreApart ts ds → slice_get ts k ≡ Some t → IsOnly (term_set ds t) n
    → AreAloneBelow ts ds k → AreAloneBelow ts ds (k + 1)
alone_more ts ds k t n apart at only told = λ i u below at_i. elim (cases_eq i k) [
  | inl e ↦ alone_at ts ds i k u t n apart e at_i at only
  | inr ne ↦ told i u (omega (arith, below, ne)) at_i
]

pub alone_behind : (ts : List Term) (ds : List (List (ℤ × ℤ))) (k : ℕ) (t : Term) (n : ℤ) → AreApart ts ds → k < length ts → slice_get ts (length ts - 1 - k) ≡ Some t
    → IsOnly (term_set ds t) n → AreAloneBehind ts ds k → AreAloneBehind ts ds (k + 1)
alone_behind ts ds k t n apart inside at only told = λ i u behind at_i. elim (cases_eq i (length ts - 1 - k)) [
  | inl e ↦ alone_at ts ds i (length ts - 1 - k) u t n apart e at_i at only
  | inr ne ↦ told i u (omega (arith, inside, behind, ne)) at_i
]

-- ---- what is said of the terms between is said of all

part_truth : (ts part : List Term) (front back : ℕ) (a : List ℤ) → IsBetween ts front back part → IsDifferent ts a → IsDifferent part a
part_truth ts part front back a h all = different_pairs part a (λ i j x y other at_i at_j.
    different_at ts a (front + i) (front + j) x y all (λ e. other (omega (arith, e))) (h.inside i x at_i) (h.inside j y at_j))

-- a term is at one of the ends or between
either : (ts : List Term) (ds : List (List (ℤ × ℤ))) (front back i : ℕ) (t : Term) → AreEndsDone (IsAlone ts ds) ts front back → slice_get ts i ≡ Some t
    → IsAlone ts ds i t ⊎ ((front ≤ i) × (i + back < length ts))
either ts ds front back i t told at = elim (cases_lt i front) [
  | inl less ↦ inl (told.before i t less at)
  | inr more ↦ elim (cases_lt (i + back) (length ts)) [ inl inside ↦ inr (more, inside) | inr outside ↦ inl (told.behind i t outside at) ]
]

-- two terms that have a number in common are both between
both_between : (ts part : List Term) (ds : List (List (ℤ × ℤ))) (front back i j : ℕ) (x y : Term) (n : ℤ) → IsBetween ts front back part → AreEndsDone (IsAlone ts ds) ts front back
    → i ≢ j → slice_get ts i ≡ Some x → slice_get ts j ≡ Some y → IsInSet (term_set ds x) n → IsInSet (term_set ds y) n
    → (i - front ≢ j - front) × (slice_get part (i - front) ≡ Some x) × (slice_get part (j - front) ≡ Some y)
both_between ts part ds front back i j x y n h told other at_i at_j in_x in_y = elim (either ts ds front back i x told at_i) [
  | inl alone ↦ absurd (alone j y (λ e. other (sym e)) at_j n in_x in_y)
  | inr here ↦ elim (either ts ds front back j y told at_j) [
    | inl alone ↦ absurd (alone i x other at_i n in_y in_x)
    | inr there ↦
        let from_i = here.0 in
        let from_j = there.0 in
        ((λ e. other (omega (arith, from_i, from_j, e))), h.all i x here.0 here.1 at_i, h.all j y there.0 there.1 at_j)
  ]
]

whole_truth : (ts part : List Term) (ds : List (List (ℤ × ℤ))) (front back : ℕ) (a : List ℤ) → AllByRecursion (IsTermOf (length ds)) ts → IsBetween ts front back part
    → AreEndsDone (IsAlone ts ds) ts front back → Within ds a → IsDifferent part a → IsDifferent ts a
whole_truth ts part ds front back a terms h told within all = different_pairs ts a (λ i j x y other at_i at_j same.
    let in_x = term_within ds a x (all_at (IsTermOf (length ds)) ts i x terms at_i) within in
    let in_y = term_within ds a y (all_at (IsTermOf (length ds)) ts j y terms at_j) within in
    let both = both_between ts part ds front back i j x y (term_value a x) h told other at_i at_j in_x (subst (IsInSet (term_set ds y)) (sym same) in_y) in
    different_at part a (i - front) (j - front) x y all both.0 both.1 both.2 same)

whole_line : (ts part : List Term) (ds : List (List (ℤ × ℤ))) (front back : ℕ) → IsBetween ts front back part → AreEndsDone (IsAlone ts ds) ts front back → AreApart part ds
    → AreApart ts ds
whole_line ts part ds front back h told apart = λ i j x y other at_i at_j n only is.
    let both = both_between ts part ds front back i j x y n h told other at_i at_j (has_only (term_set ds x) n only) is in
    apart (i - front) (j - front) x y both.0 both.1 both.2 n only is

pub ends_still : (ts : List Term) (ds es : List (List (ℤ × ℤ))) (front back : ℕ) → IsNarrower ds es → AreEndsDone (IsAlone ts ds) ts front back → AreEndsDone (IsAlone ts es) ts front back
ends_still ts ds es front back narrower told = record {
  before = λ i t below at. alone_lasts ts ds es narrower i t (told.before i t below at);
  behind = λ i t behind at. alone_lasts ts ds es narrower i t (told.behind i t behind at);
}

whole_answer : (r : Answer) (ts part : List Term) (ds es : List (List (ℤ × ℤ))) (front back : ℕ) → AllByRecursion (IsTermOf (length es)) ts → IsBetween ts front back part
    → AreEndsDone (IsAlone ts es) ts front back → IsAnswerOf r (IsDifferent part) (AreApart part) ds es → IsAnswerOf r (IsDifferent ts) (AreApart ts) ds es
whole_answer Fix ts part ds es front back terms h told answer = whole_line ts part es front back h told answer
whole_answer NoFix ts part ds es front back terms h told answer = answer
whole_answer Subsumed ts part ds es front back terms h told answer = (
  (λ a within. whole_truth ts part es front back a terms h told within (answer.0 a within)),
  (λ fs domains narrower. whole_line ts part fs front back h (ends_still ts es fs front back narrower told) (answer.1 fs domains narrower)),
)
whole_answer Failed ts part ds es front back terms h told answer = λ a within all. answer a within (part_truth ts part front back a h all)

pub whole_narrows : {E : Type 0} (result : Result Answer E) (ts part : List Term) (front back : ℕ) (r s : Stored) → AllByRecursion (IsTermOf (length r.doms)) ts
    → IsBetween ts front back part → AreEndsDone (IsAlone ts r.doms) ts front back → Narrows (IsDifferent part) (AreApart part) result r s → Narrows (IsDifferent ts) (AreApart ts) result r s
whole_narrows (Err e) ts part front back r s terms h told narrows = record {
  shrinks = narrows.shrinks;
  correct = λ a all within. narrows.correct a (part_truth ts part front back a h all) within;
  answer = tt;
}
whole_narrows (Ok answer) ts part front back r s terms h told narrows =
    let narrower = narrows.shrinks.narrower in
    record {
      shrinks = narrows.shrinks;
      correct = λ a all within. narrows.correct a (part_truth ts part front back a h all) within;
      answer = whole_answer answer ts part r.doms s.doms front back (subst (λ (n : ℕ). AllByRecursion (IsTermOf n) ts) (sym narrower.size) terms) h
          (ends_still ts r.doms s.doms front back narrower told) narrows.answer;
    }
