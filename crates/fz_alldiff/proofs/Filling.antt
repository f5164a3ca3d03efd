-- Keeping all places that aren't fixed to free numbers.
use Rattle.std.proofs.Common.{◌≡◌, ◌≢◌, ◌<◌, ◌≤◌, ℕ, ◌+◌, suc, List, [], ◌∷◌, refl, sym, subst, ◌∙◌, arith, length, ◌⊎◌, inl, inr, true, false}
use Rattle.std.specs.Prelude.{ℤ, Bool, slice_get, Some}
use Rattle.std.specs.List.{AllByRecursion}
use Rattle.std.proofs.lemmas.Bool.{cases_eq}
use Rattle.std.proofs.lemmas.Option.{slice_get_within}
use Rattle.fz_sets.specs.Sets.{IsInSet}
use Rattle.fz_sets.proofs.Lists.{all_at}
use Rattle.fz_dom.specs.declared.change.Change.TheVariants.{Changed}
use Rattle.fz_spec.specs.declared.term.Term.{Term}
use Rattle.fz_spec.specs.declared.term.Term.TheVariants.{Num, Var}
use Rattle.fz_spec.specs.Constraints.{term_value, term_values}
use Rattle.fz_spec.specs.Truth.{AreDifferent}
use Rattle.fz_strength.specs.Differences.{AreApart}
use Rattle.fz_strength.specs.Domains.{term_set, AreDomains, Within, IsNarrower, room, IsTermOf}
use Rattle.fz_strength.specs.Events.{IsOnly, IsFixedIn, AllFixed}
use Rattle.fz_prop.specs.declared.answer.Answer.TheVariants.{Subsumed}
use Rattle.fz_prop.specs.Answers.{IsAnswerOf, IsCorrectOf}
use Rattle.fz_prop.specs.Stores.{Stored, Shrinks, IsTermChange}
use Rattle.fz_prop.proofs.Filled.{still_only}
use Rattle.fz_prop.proofs.Steps.{same_shrinks}
use Rattle.fz_prop.proofs.TermChanges.{term_within, narrower_term, only_in, kept_term, falls_of, fixed_stays}
use Rattle.fz_prop.proofs.Twice.{shrinks_twice, room_after}
use Rattle.fz_alldiff.specs.Differing.{IsDifferent, AreNeverDifferent, IsOnlyAt}
use Rattle.fz_alldiff.specs.Freeing.{AreFree, AreFixedButOne, IsLast, IsKeptTo, IsNoneNew, IsKept}
use Rattle.fz_alldiff.specs.declared.close.Kept.{Kept}
use Rattle.fz_alldiff.specs.declared.close.Kept.TheVariants.{Rest, Fixed, Wiped}
use Rattle.fz_alldiff.proofs.Clearing.{has_only, same_term}
use Rattle.fz_alldiff.proofs.Removing.{has_other}
use Rattle.fz_alldiff.proofs.Resting.{terms_still}

-- ---- one place

-- where a term changed that isn't fixed, none is fixed that wasn't
none_new : (x : Term) (P : ℤ → Type 0) (s t : Stored) → IsTermChange Changed x P s t → (IsFixedIn t.doms x → ⊥) → IsNoneNew s t
none_new (Num m) P s t h open_ z n only = absurd h
none_new (Var v) P s t h open_ (Num m) n only = only
none_new (Var v) P s t h open_ (Var u) n only = elim (cases_eq u v) [
  | inl e ↦ absurd (open_ (n, subst (λ (w : ℕ). IsOnly (term_set t.doms (Var w)) n) e only))
  | inr ne ↦ sym (h.others u ne) ∙ only
]

pub kept_changed : (kept : Kept) (x : Term) (free left : ℤ → Type 0) (s t : Stored) → IsTermChange Changed x free s t → IsLast kept x t.doms free left
    → IsKept kept x free left s t
kept_changed Rest x free left s t h last = (
  record {
    inside = λ was n is. (kept_term Changed x free s t h (λ e. cc) n is).1;
    fewer = λ n is. (last.0 n).0 is;
    taken = λ n is. inl ((last.0 n).1 is);
  },
  none_new x free s t h last.1,
)
kept_changed Fixed x free left s t h last = (
  record {
    inside = λ was n is. (kept_term Changed x free s t h (λ e. cc) n is).1;
    fewer = last.0;
    taken = last.1;
  },
  (λ fixed. fixed_stays x free s t fixed.0 fixed.1 h),
  falls_of x free s t h,
)
kept_changed Wiped x free left s t h last = absurd last

-- ---- the loop

-- a place before place k isn't fixed
abbrev pub IsOpenAt : List Term → List (List (ℤ × ℤ)) → ℕ → ℕ → Type 0
IsOpenAt xs ds i k = (i < k) × ((x : Term) × (slice_get xs i ≡ Some x) × (IsFixedIn ds x → ⊥))

-- Before place k: what is left of a place that isn't fixed was free at first.
pub record IsFilling (xs : List Term) (first : ℤ → Type 0) (r s : Stored) (free : ℤ → Type 0) (has_fixed : Bool) (k : ℕ) : Type 0 where
  pub domains : AreDomains s.doms
  pub shrinks : Shrinks r s
  pub correct : IsCorrectOf (IsDifferent xs) r.doms s.doms
  pub all : (i : ℕ) (x : Term) (n : ℤ) → slice_get xs i ≡ Some x → IsInSet (term_set s.doms x) n → free n ⊎ ((j : ℕ) × IsOnlyAt xs s.doms j n)
  pub fewer : (n : ℤ) → free n → first n
  pub inside : (i : ℕ) (x : Term) → i < k → slice_get xs i ≡ Some x → (IsFixedIn s.doms x → ⊥) → (n : ℤ) → IsInSet (term_set s.doms x) n → first n
  pub last : AreFixedButOne xs r.doms → (i : ℕ) (x : Term) → i < k → slice_get xs i ≡ Some x → (IsFixedIn r.doms x → ⊥) → (n : ℤ) → IsInSet (term_set s.doms x) n → first n
  pub some_new : has_fixed ≡ true → (i : ℕ) × IsOpenAt xs r.doms i k
  pub none_new : has_fixed ≡ false → IsNoneNew r s
  pub falls : has_fixed ≡ true → room s.doms < room r.doms

pub filling_none : (xs : List Term) (free : ℤ → Type 0) (s : Stored) → AreDomains s.doms → AreFree xs s.doms free → IsFilling xs free s s free false 0
filling_none xs free s domains h = record {
  domains = domains;
  shrinks = same_shrinks s;
  correct = λ a all within. within;
  all = h.all;
  fewer = λ n is. is;
  inside = λ i x below. absurd (omega (arith, below));
  last = λ one i x below. absurd (omega (arith, below));
  some_new = λ e. cc;
  none_new = λ e x n only. only;
  falls = λ e. cc;
}

-- a different assignment has a free number at a place that isn't fixed
needs_free : (xs : List Term) (ds : List (List (ℤ × ℤ))) (free : ℤ → Type 0) (k : ℕ) (x : Term) (a : List ℤ) → AllByRecursion (IsTermOf (length ds)) xs → slice_get xs k ≡ Some x
    → (IsFixedIn ds x → ⊥) → ((n : ℤ) → IsInSet (term_set ds x) n → free n ⊎ ((j : ℕ) × IsOnlyAt xs ds j n)) → Within ds a → IsDifferent xs a → free (term_value a x)
needs_free xs ds free k x a terms at open_ all within different =
    elim (all (term_value a x) (term_within ds a x (all_at (IsTermOf (length ds)) xs k x terms at) within)) [
      | inl is ↦ is
      | inr p ↦
          let other : p.0 ≢ k = λ e.
          let here : IsOnlyAt xs ds k (term_value a x) = subst (λ (q : ℕ). IsOnlyAt xs ds q (term_value a x)) e p.1 in
          open_ (term_value a x, subst (λ (t : Term). IsOnly (term_set ds t) (term_value a x)) (same_term xs k here.0 x here.1 at) here.2) in
          absurd (has_other xs ds a (term_value a x) p.0 k x terms p.1 other at within different refl)
    ]

fixed_at_still : (xs : List Term) (ds es : List (List (ℤ × ℤ))) (i : ℕ) (n : ℤ) → AllByRecursion (IsTermOf (length ds)) xs → AreDomains es → IsNarrower ds es → IsOnlyAt xs ds i n
    → IsOnlyAt xs es i n
fixed_at_still xs ds es i n terms domains narrower only =
    (only.0, only.1, still_only ds es only.0 n (all_at (IsTermOf (length ds)) xs i only.0 terms only.1) only.2 domains narrower)

open_before : (xs : List Term) (ds es : List (List (ℤ × ℤ))) (i : ℕ) (x : Term) → AllByRecursion (IsTermOf (length ds)) xs → slice_get xs i ≡ Some x → AreDomains es → IsNarrower ds es
    → (IsFixedIn es x → ⊥) → IsFixedIn ds x → ⊥
open_before xs ds es i x terms at domains narrower open_ fixed =
    open_ (fixed.0, still_only ds es x fixed.0 (all_at (IsTermOf (length ds)) xs i x terms at) fixed.1 domains narrower)

pub correct_more : (xs : List Term) (first : ℤ → Type 0) (r s t : Stored) (free : ℤ → Type 0) (before : Bool) (k : ℕ) (x : Term) → AllByRecursion (IsTermOf (length r.doms)) xs
    → slice_get xs k ≡ Some x → ((a : List ℤ) → Within s.doms a → ((IsFixedIn s.doms x → ⊥) → free (term_value a x)) → Within t.doms a)
    → IsFilling xs first r s free before k → IsCorrectOf (IsDifferent xs) r.doms t.doms
correct_more xs first r s t free before k x terms at within h = λ a different inside.
    let so_far = h.correct a different inside in
    within a so_far (λ open_. needs_free xs s.doms free k x a (terms_still xs r.doms s.doms h.shrinks.narrower terms) at open_ (λ n. h.all k x n at) so_far different)

-- the one place that wasn't fixed isn't before it is looked at
still_open : (xs : List Term) (first : ℤ → Type 0) (r s : Stored) (free : ℤ → Type 0) (has_fixed : Bool) (k : ℕ) (x : Term) → slice_get xs k ≡ Some x
    → IsFilling xs first r s free has_fixed k → AreFixedButOne xs r.doms → (IsFixedIn r.doms x → ⊥) → IsFixedIn s.doms x → ⊥
still_open xs first r s free false k x at h one open_ fixed = open_ (fixed.0, h.none_new refl x fixed.0 fixed.1)
still_open xs first r s free true k x at h one open_ fixed =
    let p = h.some_new refl in
    let below = p.1.0 in
    elim (one p.0 k p.1.1.0 x (omega (arith, below)) p.1.1.1 at) [ inl f ↦ p.1.1.2 f | inr f ↦ open_ f ]

filling_more : (xs : List Term) (first : ℤ → Type 0) (r s t : Stored) (free left : ℤ → Type 0) (before after : Bool) (k : ℕ) (x : Term) → AllByRecursion (IsTermOf (length r.doms)) xs
    → slice_get xs k ≡ Some x → AreDomains t.doms → Shrinks s t
    → ((a : List ℤ) → Within s.doms a → ((IsFixedIn s.doms x → ⊥) → free (term_value a x)) → Within t.doms a) → IsKeptTo x free left s t
    → (after ≡ true → (i : ℕ) × IsOpenAt xs r.doms i (k + 1)) → (after ≡ false → IsNoneNew r t) → (after ≡ true → room t.doms < room r.doms) → IsFilling xs first r s free before k
    → IsFilling xs first r t left after (k + 1)
filling_more xs first r s t free left before after k x terms at domains shrinks within kept some_new none_new falls h =
    let here = terms_still xs r.doms s.doms h.shrinks.narrower terms in
    record {
      domains = domains;
      shrinks = shrinks_twice r s t h.shrinks shrinks;
      correct = correct_more xs first r s t free before k x terms at within h;
      all = λ i z n at_i is. elim (h.all i z n at_i (narrower_term s.doms t.doms z shrinks.narrower n is)) [
        | inl is_free ↦ elim (kept.taken n is_free) [ inl is_left ↦ inl is_left | inr only ↦ inr (k, (x, at, only)) ]
        | inr p ↦ inr (p.0, fixed_at_still xs s.doms t.doms p.0 n here domains shrinks.narrower p.1)
      ];
      fewer = λ n is. h.fewer n (kept.fewer n is);
      inside = λ i z below at_i open_ n is. elim (cases_eq i k) [
        | inl e ↦
            let same : x ≡ z = same_term xs k x z at (subst (λ (q : ℕ). slice_get xs q ≡ Some z) e at_i) in
            let was : IsFixedIn s.doms x → ⊥ = λ fixed. open_before xs s.doms t.doms i z here at_i domains shrinks.narrower open_ (subst (IsFixedIn s.doms) same fixed) in
            h.fewer n (kept.inside was n (subst (λ (u : Term). IsInSet (term_set t.doms u) n) (sym same) is))
        | inr ne ↦ h.inside i z (omega (arith, below, ne)) at_i (open_before xs s.doms t.doms i z here at_i domains shrinks.narrower open_) n
            (narrower_term s.doms t.doms z shrinks.narrower n is)
      ];
      last = λ one i z below at_i open_ n is. elim (cases_eq i k) [
        | inl e ↦
            let same : x ≡ z = same_term xs k x z at (subst (λ (q : ℕ). slice_get xs q ≡ Some z) e at_i) in
            let open_x : IsFixedIn r.doms x → ⊥ = λ fixed. open_ (subst (IsFixedIn r.doms) same fixed) in
            h.fewer n (kept.inside (still_open xs first r s free before k x at h one open_x) n (subst (λ (u : Term). IsInSet (term_set t.doms u) n) (sym same) is))
        | inr ne ↦ h.last one i z (omega (arith, below, ne)) at_i open_ n (narrower_term s.doms t.doms z shrinks.narrower n is)
      ];
      some_new = some_new;
      none_new = none_new;
      falls = falls;
    }

pub filling_rest : (xs : List Term) (first : ℤ → Type 0) (r s t : Stored) (free left : ℤ → Type 0) (before : Bool) (k : ℕ) (x : Term) → AllByRecursion (IsTermOf (length r.doms)) xs
    → slice_get xs k ≡ Some x → AreDomains t.doms → Shrinks s t
    → ((a : List ℤ) → Within s.doms a → ((IsFixedIn s.doms x → ⊥) → free (term_value a x)) → Within t.doms a) → IsKept Rest x free left s t
    → IsFilling xs first r s free before k → IsFilling xs first r t left before (k + 1)
filling_rest xs first r s t free left before k x terms at domains shrinks within kept h =
    filling_more xs first r s t free left before before k x terms at domains shrinks within kept.0
    (λ e. let p = h.some_new e in let below = p.1.0 in (p.0, (omega (arith, below), p.1.1))) (λ e y n only. h.none_new e y n (kept.1 y n only))
    (λ e. let fallen = h.falls e in let after = room_after s t shrinks in omega (arith, fallen, after)) h

pub filling_fixed : (xs : List Term) (first : ℤ → Type 0) (r s t : Stored) (free left : ℤ → Type 0) (before : Bool) (k : ℕ) (x : Term) → AllByRecursion (IsTermOf (length r.doms)) xs
    → slice_get xs k ≡ Some x → AreDomains t.doms → Shrinks s t
    → ((a : List ℤ) → Within s.doms a → ((IsFixedIn s.doms x → ⊥) → free (term_value a x)) → Within t.doms a) → IsKept Fixed x free left s t
    → IsFilling xs first r s free before k → IsFilling xs first r t left true (k + 1)
filling_fixed xs first r s t free left before k x terms at domains shrinks within kept h =
    filling_more xs first r s t free left before true k x terms at domains shrinks within kept.0
    (λ e. (k, (omega arith, (x, at, λ was. kept.1 (was.0, still_only r.doms s.doms x was.0 (all_at (IsTermOf (length r.doms)) xs k x terms at) was.1 h.domains h.shrinks.narrower)))))
    (λ e. cc)
    (λ e. let fallen = kept.2 in let before = room_after r s h.shrinks in omega (arith, fallen, before)) h

-- a place that has no free number
pub never_filled : (xs : List Term) (first : ℤ → Type 0) (r s t : Stored) (free left : ℤ → Type 0) (before : Bool) (k : ℕ) (x : Term) → AllByRecursion (IsTermOf (length r.doms)) xs
    → slice_get xs k ≡ Some x → IsKept Wiped x free left s t → IsFilling xs first r s free before k → AreNeverDifferent xs r.doms
never_filled xs first r s t free left before k x terms at kept h = λ a inside different.
    let here = terms_still xs r.doms s.doms h.shrinks.narrower terms in
    let so_far = h.correct a different inside in
    kept.1 (term_value a x) (term_within s.doms a x (all_at (IsTermOf (length s.doms)) xs k x here at) so_far)
    (needs_free xs s.doms free k x a here at kept.0 (λ n. h.all k x n at) so_far different)

-- ---- the line

-- no place is fixed that wasn't
pub apart_now : (xs : List Term) (first : ℤ → Type 0) (r s : Stored) (free : ℤ → Type 0) (has_fixed : Bool) (k : ℕ) → length xs ≤ k → has_fixed ≡ false → AreFree xs r.doms first
    → IsFilling xs first r s free has_fixed k → AreApart xs s.doms
apart_now xs first r s free has_fixed k end none frees h = λ i j x y other at_i at_j n only is.
    let was : IsOnlyAt xs r.doms i n = (x, at_i, h.none_new none x n only) in
    let below = slice_get_within xs j y at_j in
    frees.taken i n was (h.inside j y (omega (arith, end, below)) at_j
    (λ fixed.
    let same : n ≡ fixed.0 = only_in (term_set s.doms y) fixed.0 n fixed.1 is in
    frees.once i j n other was (y, at_j, h.none_new none y n (subst (IsOnly (term_set s.doms y)) (sym same) fixed.1)))
    n is)

-- one place at most wasn't fixed
pub apart_last : (xs : List Term) (first : ℤ → Type 0) (r s : Stored) (free : ℤ → Type 0) (has_fixed : Bool) (k : ℕ) → length xs ≤ k → AllByRecursion (IsTermOf (length r.doms)) xs
    → AreFree xs r.doms first → IsFilling xs first r s free has_fixed k → AreFixedButOne xs r.doms → AreApart xs s.doms
apart_last xs first r s free has_fixed k end terms frees h one = λ i j x y other at_i at_j n only is.
    let below_i = slice_get_within xs i x at_i in
    let below_j = slice_get_within xs j y at_j in
    let is_x = has_only (term_set s.doms x) n only in
    let before = h.shrinks.narrower in
    let was : (z : Term) (m : ℤ) → IsOnly (term_set r.doms z) m → IsInSet (term_set s.doms z) n → IsOnly (term_set r.doms z) n = λ z m at is_z.
    subst (IsOnly (term_set r.doms z)) (sym (only_in (term_set r.doms z) m n at (narrower_term r.doms s.doms z before n is_z))) at in
    elim (one i j x y other at_i at_j) [
      | inl f ↦
          let at_x = was x f.0 f.1 is_x in
          frees.taken i n (x, at_i, at_x) (h.last one j y (omega (arith, end, below_j)) at_j (λ g. frees.once i j n other (x, at_i, at_x) (y, at_j, was y g.0 g.1 is)) n is)
      | inr f ↦
          let at_y = was y f.0 f.1 is in
          frees.taken j n (y, at_j, at_y) (h.last one i x (omega (arith, end, below_i)) at_i (λ g. frees.once i j n other (x, at_i, was x g.0 g.1 is_x) (y, at_j, at_y)) n is_x)
    ]

-- all places are fixed
pub apart_fixed : (xs : List Term) (ds : List (List (ℤ × ℤ))) (free : ℤ → Type 0) → AreFree xs ds free → AllFixed ds xs → AreApart xs ds
apart_fixed xs ds free h fixed = λ i j x y other at_i at_j n only is.
    let at_y = all_at (IsFixedIn ds) xs j y fixed at_j in
    let same : n ≡ at_y.0 = only_in (term_set ds y) at_y.0 n at_y.1 is in
    h.once i j n other (x, at_i, only) (y, at_j, subst (IsOnly (term_set ds y)) (sym same) at_y.1)

pub all_but_none : (xs : List Term) (ds : List (List (ℤ × ℤ))) → AllFixed ds xs → AreFixedButOne xs ds
all_but_none xs ds fixed i j x y other at_i at_j = inl (all_at (IsFixedIn ds) xs i x fixed at_i)

pub all_but_one_still : (xs : List Term) (ds es : List (List (ℤ × ℤ))) → AllByRecursion (IsTermOf (length ds)) xs → AreDomains es → IsNarrower ds es → AreFixedButOne xs ds
    → AreFixedButOne xs es
all_but_one_still xs ds es terms domains narrower one i j x y other at_i at_j = elim (one i j x y other at_i at_j) [
  | inl f ↦ inl (f.0, still_only ds es x f.0 (all_at (IsTermOf (length ds)) xs i x terms at_i) f.1 domains narrower)
  | inr f ↦ inr (f.0, still_only ds es y f.0 (all_at (IsTermOf (length ds)) xs j y terms at_j) f.1 domains narrower)
]

-- ---- where all places but one are fixed

unlike : (n : ℤ) (ys : List Term) (a : List ℤ) → ((j : ℕ) (y : Term) → slice_get ys j ≡ Some y → n ≢ term_value a y) → AllByRecursion (λ (m : ℤ). n ≢ m) (term_values a ys)
unlike n [] a other = tt
unlike n (y ∷ ys) a other = (other 0 y refl, unlike n ys a (λ j z at. other (suc j) z at))

pub different_pairs : (xs : List Term) (a : List ℤ) → ((i j : ℕ) (x y : Term) → i ≢ j → slice_get xs i ≡ Some x → slice_get xs j ≡ Some y → term_value a x ≢ term_value a y)
    → AreDifferent (term_values a xs)
different_pairs [] a other = tt
different_pairs (x ∷ xs) a other = (
  unlike (term_value a x) xs a (λ j y at. other 0 (suc j) x y (λ e. cc) refl at),
  different_pairs xs a (λ i j y z apart at_i at_j. other (suc i) (suc j) y z (λ e. apart (omega (arith, e))) at_i at_j),
)

pub subsumed : (xs : List Term) (ds es : List (List (ℤ × ℤ))) → AllByRecursion (IsTermOf (length es)) xs → AreApart xs es → AreFixedButOne xs es
    → IsAnswerOf Subsumed (IsDifferent xs) (AreApart xs) ds es
subsumed xs ds es terms apart one = (
  (λ a within. different_pairs xs a (λ i j x y other at_i at_j same.
      let in_x = term_within es a x (all_at (IsTermOf (length es)) xs i x terms at_i) within in
      let in_y = term_within es a y (all_at (IsTermOf (length es)) xs j y terms at_j) within in
      elim (one i j x y other at_i at_j) [
        | inl f ↦ apart i j x y other at_i at_j f.0 f.1 (subst (IsInSet (term_set es y)) (sym same ∙ only_in (term_set es x) f.0 (term_value a x) f.1 in_x) in_y)
        | inr f ↦ apart j i y x (λ e. other (sym e)) at_j at_i f.0 f.1 (subst (IsInSet (term_set es x)) (same ∙ only_in (term_set es y) f.0 (term_value a y) f.1 in_y) in_x)
      ])),
  (λ fs domains narrower i j x y other at_i at_j n only is.
      let is_y = narrower_term es fs y narrower n is in
      let is_x = narrower_term es fs x narrower n (has_only (term_set fs x) n only) in
      elim (one i j x y other at_i at_j) [
        | inl f ↦ apart i j x y other at_i at_j f.0 f.1 (subst (IsInSet (term_set es y)) (only_in (term_set es x) f.0 n f.1 is_x) is_y)
        | inr f ↦ apart j i y x (λ e. other (sym e)) at_j at_i f.0 f.1 (subst (IsInSet (term_set es x)) (only_in (term_set es y) f.0 n f.1 is_y) is_x)
      ]),
)
