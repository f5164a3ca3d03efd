-- Clearing one fixed place after the other.
use Rattle.std.proofs.Common.{◌≡◌, ◌<◌, ℕ, suc, List, [], ◌∷◌, refl, sym, subst, ◌∙◌, arith, length, inl, inr, true, false, cond, get_or-set_other}
use Rattle.std.specs.Prelude.{ℤ, Bool, slice_set, sum_by}
use Rattle.std.specs.List.{AllByRecursion}
use Rattle.std.proofs.lemmas.Bool.{cases_eq}
use Rattle.std.proofs.lemmas.List.{length-set}
use Rattle.std.proofs.lemmas.Option.{slice_get_within, slice_get_cases}
use Rattle.fz_spec.specs.declared.term.Term.{Term}
use Rattle.fz_spec.specs.Constraints.{term_value}
use Rattle.fz_strength.specs.Differences.{AreApart}
use Rattle.fz_strength.specs.Domains.{term_set, AreDomains, Within, IsNarrower, IsTermOf}
use Rattle.fz_strength.specs.Events.{IsOnly, IsFixedIn, AllFixed, AreSingle}
use Rattle.fz_strength.proofs.Differences.{different}
use Rattle.fz_sets.proofs.Lists.{all_at}
use Rattle.fz_prop.specs.Answers.{IsAnswerOf, IsCorrectOf}
use Rattle.fz_prop.specs.Outcomes.{rested_by}
use Rattle.fz_prop.specs.Stores.{Stored, Shrinks}
use Rattle.fz_prop.proofs.TermChanges.{term_within, only_in}
use Rattle.fz_prop.proofs.Twice.{shrinks_twice}
use Rattle.fz_alldiff.specs.Differing.{IsDifferent, AreNeverDifferent, IsFixedPlace, IsDone, IsCleared, AreCleared}
use Rattle.fz_alldiff.proofs.Clearing.{cleared_still}

-- what is left to do
abbrev pub undone : Bool → ℕ
undone b = cond b 0 1

abbrev pub open_places : List Bool → ℕ
open_places done = sum_by undone done

-- the places so far are cleared
pub record IsClearing (xs : List Term) (r s : Stored) (done : List Bool) : Type 0 where
  pub size : length done ≡ length xs
  pub domains : AreDomains s.doms
  pub shrinks : Shrinks r s
  pub correct : IsCorrectOf (IsDifferent xs) r.doms s.doms
  pub cleared : AreCleared xs s.doms done

pub terms_still : (xs : List Term) (ds es : List (List (ℤ × ℤ))) → IsNarrower ds es → AllByRecursion (IsTermOf (length ds)) xs → AllByRecursion (IsTermOf (length es)) xs
terms_still xs ds es narrower terms = subst (λ (n : ℕ). AllByRecursion (IsTermOf n) xs) (sym narrower.size) terms

pub clearing_more : (xs : List Term) (r s t : Stored) (done : List Bool) (i : ℕ) → AllByRecursion (IsTermOf (length r.doms)) xs → AreDomains t.doms → Shrinks s t
    → IsCorrectOf (IsDifferent xs) s.doms t.doms → IsCleared xs t.doms i → IsClearing xs r s done → IsClearing xs r t (slice_set done i true)
clearing_more xs r s t done i terms domains shrinks correct cleared so_far = record {
  size = length-set done i true ∙ so_far.size;
  domains = domains;
  shrinks = shrinks_twice r s t so_far.shrinks shrinks;
  correct = λ a all within. correct a all (so_far.correct a all within);
  cleared = λ j is. elim (cases_eq j i) [
    | inl e ↦ subst (IsCleared xs t.doms) (sym e) cleared
    | inr ne ↦ cleared_still xs s.doms t.doms j (terms_still xs r.doms s.doms so_far.shrinks.narrower terms) domains shrinks.narrower
        (so_far.cleared j (sym (get_or-set_other done i j true false ne) ∙ is))
  ];
}

-- the rest fails
pub fails : (xs : List Term) (r s : Stored) (done : List Bool) → IsClearing xs r s done → AreNeverDifferent xs s.doms → AreNeverDifferent xs r.doms
fails xs r s done so_far never = λ a within all. never a (so_far.correct a all within) all

-- ---- where all that are fixed are cleared

all_cleared : (xs : List Term) (ds : List (List (ℤ × ℤ))) → ((i : ℕ) → IsFixedPlace xs ds i → IsCleared xs ds i) → AreApart xs ds
all_cleared xs ds cleared = λ i j x y other at_i at_j n only is. (cleared i (x, at_i, (n, only))).1 j x y other at_i at_j n only is

single_places : (xs : List Term) (ds : List (List (ℤ × ℤ))) (a : List ℤ) → Within ds a → AllByRecursion (IsTermOf (length ds)) xs → AllFixed ds xs → AreSingle ds a xs
single_places [] ds a within terms fixed = tt
single_places (x ∷ xs) ds a within terms fixed = (
  subst (IsOnly (term_set ds x)) (sym (only_in (term_set ds x) fixed.0.0 (term_value a x) fixed.0.1 (term_within ds a x terms.0 within))) fixed.0.1,
  single_places xs ds a within terms.1 fixed.1,
)

all_places : (xs : List Term) (ds : List (List (ℤ × ℤ))) → ((i : ℕ) → i < length xs → IsFixedPlace xs ds i) → AllFixed ds xs
all_places [] ds fixed = tt
all_places (x ∷ xs) ds fixed =
    let first = fixed 0 (omega arith) in
    let same : first.0 ≡ x = cc (first.1) in (
      subst (IsFixedIn ds) same first.2,
      all_places xs ds (λ i below. let later = fixed (suc i) (omega (arith, below)) in (later.0, later.1, later.2)),
    )

place_fixed : (xs : List Term) (ds : List (List (ℤ × ℤ))) (i : ℕ) → i < length xs → AllFixed ds xs → IsFixedPlace xs ds i
place_fixed xs ds i below fixed = elim (slice_get_cases xs i).1 [
  | inl h ↦ (h.0, h.2, all_at (IsFixedIn ds) xs i h.0 fixed h.2)
  | inr h ↦ absurd (omega (arith, below, h.0))
]

always : (xs : List Term) (ds : List (List (ℤ × ℤ))) → AllByRecursion (IsTermOf (length ds)) xs → AllFixed ds xs → AreApart xs ds → (a : List ℤ) → Within ds a → IsDifferent xs a
always xs ds terms fixed apart a within = different xs ds a (single_places xs ds a within terms fixed) apart

-- the answer at the end, which is for good where all places are done
pub rested_answer : (all_done : Bool) (xs : List Term) (r s : Stored) (done : List Bool) → AllByRecursion (IsTermOf (length r.doms)) xs → IsClearing xs r s done
    → ((i : ℕ) → IsFixedPlace xs s.doms i → IsDone done i) → (all_done ≡ true → (i : ℕ) → i < length done → IsDone done i)
    → IsAnswerOf (rested_by all_done) (IsDifferent xs) (AreApart xs) r.doms s.doms
rested_answer false xs r s done terms h each all = all_cleared xs s.doms (λ i fixed. h.cleared i (each i fixed))
rested_answer true xs r s done terms h each all =
    let here = terms_still xs r.doms s.doms h.shrinks.narrower terms in
    let fixed = all_places xs s.doms (λ i below. (h.cleared i (all refl i (omega (arith, below, h.size)))).0) in
    let cleared : (i : ℕ) → IsFixedPlace xs s.doms i → IsCleared xs s.doms i = λ i is. h.cleared i (each i is) in (
      always xs s.doms here fixed (all_cleared xs s.doms cleared),
      (λ es domains narrower. all_cleared xs es (λ i is.
          let at : i < length xs = slice_get_within xs i is.0 is.1 in
          cleared_still xs s.doms es i here domains narrower (cleared i (place_fixed xs s.doms i at fixed)))),
    )
