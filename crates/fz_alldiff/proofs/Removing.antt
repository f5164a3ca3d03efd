-- Removing the number of a fixed place from others.
use Rattle.std.proofs.Common.{◌≡◌, ◌≢◌, ◌<◌, ◌≤◌, ℕ, ◌+◌, zero, suc, List, [], ◌∷◌, refl, sym, subst, ◌∙◌, ap, arith, length, inl, inr}
use Rattle.std.specs.Prelude.{ℤ, Bool, slice_get, Some}
use Rattle.std.specs.List.{AllByRecursion}
use Rattle.std.proofs.lemmas.Bool.{cases_eq}
use Rattle.std.proofs.lemmas.Option.{slice_get_within}
use Rattle.fz_sets.specs.Sets.{IsInSet}
use Rattle.fz_dom.specs.declared.change.Change.{Change}
use Rattle.fz_dom.specs.declared.change.Change.TheVariants.{Wiped}
use Rattle.fz_spec.specs.declared.term.Term.{Term}
use Rattle.fz_spec.specs.Constraints.{term_value, term_values}
use Rattle.fz_strength.specs.Domains.{term_set, Within, IsTermOf}
use Rattle.fz_sets.proofs.Lists.{all_at}
use Rattle.fz_prop.specs.Answers.{IsCorrectOf}
use Rattle.fz_prop.specs.Stores.{Stored, Shrinks, IsTermChange}
use Rattle.fz_prop.proofs.TermChanges.{term_within, narrower_term, only_in, within_kept, kept_term, none_kept}
use Rattle.fz_prop.proofs.Twice.{shrinks_twice}
use Rattle.fz_alldiff.specs.Differing.{IsDifferent, AreNeverDifferent, IsOnlyAt, IsDone, IsOutside}

-- ---- two places have different numbers

value_at : (P : ℤ → Type 0) (xs : List Term) (a : List ℤ) (j : ℕ) (y : Term) → AllByRecursion P (term_values a xs) → slice_get xs j ≡ Some y → P (term_value a y)
value_at P [] a j y all at = absurd (cc (at))
value_at P (x ∷ xs) a zero y all at = let same : x ≡ y = cc (at) in subst (λ (t : Term). P (term_value a t)) same all.0
value_at P (x ∷ xs) a (suc j) y all at = value_at P xs a j y all.1 at

pub different_at : (xs : List Term) (a : List ℤ) (i j : ℕ) (x y : Term) → IsDifferent xs a → i ≢ j → slice_get xs i ≡ Some x → slice_get xs j ≡ Some y → term_value a x ≢ term_value a y
different_at [] a i j x y all other at_i at_j = absurd (cc (at_i))
different_at (z ∷ zs) a zero zero x y all other at_i at_j = absurd (other refl)
different_at (z ∷ zs) a zero (suc j) x y all other at_i at_j =
    let same : z ≡ x = cc (at_i) in subst (λ (t : Term). term_value a t ≢ term_value a y) same (value_at (λ (m : ℤ). term_value a z ≢ m) zs a j y all.0 at_j)
different_at (z ∷ zs) a (suc i) zero x y all other at_i at_j = λ equal.
    let same : z ≡ y = cc (at_j) in subst (λ (t : Term). term_value a t ≢ term_value a x) same (value_at (λ (m : ℤ). term_value a z ≢ m) zs a i x all.0 at_i) (sym equal)
different_at (z ∷ zs) a (suc i) (suc j) x y all other at_i at_j = different_at zs a i j x y all.1 (λ e. other (ap suc e)) at_i at_j

-- where one number is left at a place, another place has another
pub has_other : (xs : List Term) (ds : List (List (ℤ × ℤ))) (a : List ℤ) (n : ℤ) (i j : ℕ) (y : Term) → AllByRecursion (IsTermOf (length ds)) xs → IsOnlyAt xs ds i n → i ≢ j
    → slice_get xs j ≡ Some y → Within ds a → IsDifferent xs a → term_value a y ≢ n
has_other xs ds a n i j y terms only other at within all = λ same.
    let x = only.0 in
    let is_n : term_value a x ≡ n = only_in (term_set ds x) n (term_value a x) only.2 (term_within ds a x (all_at (IsTermOf (length ds)) xs i x terms only.1) within) in
    different_at xs a i j x y all other only.1 at (is_n ∙ sym same)

-- ---- the loop

-- Before place k the number is in no place that isn't done, but for its own.
pub record IsRemoving (xs : List Term) (done : List Bool) (n : ℤ) (i : ℕ) (r s : Stored) (k : ℕ) : Type 0 where
  pub shrinks : Shrinks r s
  pub correct : IsCorrectOf (IsDifferent xs) r.doms s.doms
  pub outside : (j : ℕ) (y : Term) → j < k → i ≢ j → (IsDone done j → ⊥) → slice_get xs j ≡ Some y → IsInSet (term_set s.doms y) n → ⊥

-- a place keeps its other numbers
pub removing_more : (change : Change) (xs : List Term) (done : List Bool) (n : ℤ) (i : ℕ) (r s t : Stored) (k : ℕ) (y : Term) → AllByRecursion (IsTermOf (length r.doms)) xs
    → IsOnlyAt xs r.doms i n → i ≢ k → slice_get xs k ≡ Some y → IsTermChange change y (λ u. u ≢ n) s t → (change ≡ Wiped → ⊥) → Shrinks s t
    → IsRemoving xs done n i r s k → IsRemoving xs done n i r t (k + 1)
removing_more change xs done n i r s t k y terms only other at h not shrinks so_far = record {
  shrinks = shrinks_twice r s t so_far.shrinks shrinks;
  correct = λ a all within. within_kept change y (λ u. u ≢ n) s t a h shrinks (so_far.correct a all within) (has_other xs r.doms a n i k y terms only other at within all);
  outside = λ j z below apart undone at_j is. elim (cases_eq j k) [
    | inl e ↦
        let same : z ≡ y = cc (at, subst (λ (m : ℕ). slice_get xs m ≡ Some z) e at_j) in
        (kept_term change y (λ u. u ≢ n) s t h not n (subst (λ (u : Term). IsInSet (term_set t.doms u) n) same is)).1 refl
    | inr ne ↦ so_far.outside j z (omega (arith, below, ne)) apart undone at_j (narrower_term s.doms t.doms z shrinks.narrower n is)
  ];
}

-- a place has no other number
pub never_different : (xs : List Term) (done : List Bool) (n : ℤ) (i : ℕ) (r s t : Stored) (k : ℕ) (y : Term) → AllByRecursion (IsTermOf (length r.doms)) xs
    → IsOnlyAt xs r.doms i n → i ≢ k → slice_get xs k ≡ Some y → IsTermChange Wiped y (λ u. u ≢ n) s t
    → IsRemoving xs done n i r s k → AreNeverDifferent xs r.doms
never_different xs done n i r s t k y terms only other at h so_far = λ a within all.
    let is_y : IsTermOf (length s.doms) y = subst (λ (m : ℕ). IsTermOf m y) (sym so_far.shrinks.narrower.size) (all_at (IsTermOf (length r.doms)) xs k y terms at) in
    none_kept y (λ u. u ≢ n) s t h (term_value a y) (term_within s.doms a y is_y (so_far.correct a all within)) (has_other xs r.doms a n i k y terms only other at within all)

-- all places are passed
pub removing_all : (xs : List Term) (done : List Bool) (n : ℤ) (i : ℕ) (r s : Stored) (k : ℕ) → length xs ≤ k → IsRemoving xs done n i r s k → IsOutside xs s.doms done n i
removing_all xs done n i r s k end h = λ j y other undone at is. h.outside j y (omega (arith, end, slice_get_within xs j y at)) other undone at is
