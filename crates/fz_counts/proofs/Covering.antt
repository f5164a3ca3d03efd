-- The values of a cover and their counts, one after the other; and stores that are narrowed twice.
use Rattle.std.proofs.Common.{◌≡◌, ℕ, zero, suc, ◌+◌, ◌<◌, ◌≤◌, List, [], ◌∷◌, Bool, true, false, refl, sym, subst, arith, length, inl, inr}
use Rattle.std.specs.Prelude.{ℤ, pos, slice_get, Some}
use Rattle.std.proofs.lemmas.Bool.{cases_eq}
use Rattle.std.proofs.lemmas.Option.{slice_get_within}
use Rattle.fz_sets.proofs.Lists.{some_is}
use Rattle.fz_dom.specs.declared.change.Change.{Change}
use Rattle.fz_dom.specs.declared.change.Change.TheVariants.{Same, Changed, Wiped}
use Rattle.fz_spec.specs.declared.term.Term.{Term}
use Rattle.fz_spec.specs.Constraints.{term_value, term_values}
use Rattle.fz_spec.specs.Truth.{AreCounts, count_of}
use Rattle.fz_strength.specs.Counts.{IsCountLine, AreCountLines}
use Rattle.fz_strength.specs.Domains.{Within}
use Rattle.fz_prop.specs.Answers.{IsCorrectOf}
use Rattle.fz_prop.specs.Outcomes.{IsOutcome}
use Rattle.fz_prop.specs.Stores.{Stored, Shrinks}
use Rattle.fz_prop.proofs.Keeping.{IsKept, kept_none, kept_same, kept_changed}
use Rattle.fz_prop.proofs.Twice.{room_after}
use Rattle.fz_counts.specs.Counting.{IsCount, AreCountsOf}

-- ---- the truth

pub count_at : (vs cover : List ℤ) (counts : List Term) (a : List ℤ) (j : ℕ) (value : ℤ) (count : Term) → slice_get cover j ≡ Some value → slice_get counts j ≡ Some count
    → AreCounts vs cover (term_values a counts) → term_value a count ≡ pos (count_of value vs)
count_at vs [] counts a j value count at_value at_count h = absurd (cc (at_value))
count_at vs (v ∷ cover) [] a j value count at_value at_count h = absurd (cc (at_count))
count_at vs (v ∷ cover) (c ∷ counts) a zero value count at_value at_count h =
    subst (λ (t : Term). term_value a t ≡ pos (count_of value vs)) (some_is c count at_count) (subst (λ (n : ℤ). term_value a c ≡ pos (count_of n vs)) (some_is v value at_value) h.0)
count_at vs (v ∷ cover) (c ∷ counts) a (suc j) value count at_value at_count h = count_at vs cover counts a j value count at_value at_count h.1

pub as_many : (vs cover : List ℤ) (counts : List Term) (a : List ℤ) → AreCounts vs cover (term_values a counts) → length cover ≡ length counts
as_many vs [] [] a h = refl
as_many vs (value ∷ cover) (count ∷ counts) a h = let more = as_many vs cover counts a h.1 in omega (arith, more)
as_many vs [] (count ∷ counts) a h = absurd h
as_many vs (value ∷ cover) [] a h = absurd h

-- ---- outcomes

-- by another truth that says more within the store
pub outcome_by : (change : Change) (T U : List ℤ → Type 0) (r s : Stored) → ((a : List ℤ) → Within r.doms a → U a → T a) → IsOutcome change T r s → IsOutcome change U r s
outcome_by Same T U r s says h = h
outcome_by Changed T U r s says h = h
outcome_by Wiped T U r s says h = λ a within holds. h a within (says a within holds)

pub correct_by : (T U : List ℤ → Type 0) (ds es : List (List (ℤ × ℤ))) → ((a : List ℤ) → Within ds a → U a → T a) → IsCorrectOf T ds es → IsCorrectOf U ds es
correct_by T U ds es says h = λ a holds within. h a (says a within holds) within

-- one run after the other
pub outcome_before : (change : Change) (T : List ℤ → Type 0) (r s t : Stored) → IsOutcome change T r s → t ≡ s → IsOutcome change T r t
outcome_before change T r s t h same = subst (λ (u : Stored). IsOutcome change T r u) (sym same) h

pub outcome_after : (change : Change) (T : List ℤ → Type 0) (r s t : Stored) → Shrinks r s → IsCorrectOf T r.doms s.doms → (change ≡ Same → ⊥) → IsOutcome change T s t → IsOutcome change T r t
outcome_after Same T r s t shrinks correct changed h = absurd (changed refl)
outcome_after Changed T r s t shrinks correct changed h = let before = room_after r s shrinks in omega (arith, before, h)
outcome_after Wiped T r s t shrinks correct changed h = λ a within holds. h a (correct a holds within) holds

-- ---- the loop

-- No assignment is lost that makes it true, and where nothing changed the lines of the places before k hold.
pub record IsCounting (xs : List Term) (cover : List ℤ) (counts : List Term) (r s : Stored) (has_changed : Bool) (k : ℕ) : Type 0 where
  pub kept : IsKept (AreCountsOf xs cover counts) r s has_changed
  pub lines : has_changed ≡ false → (j : ℕ) (value : ℤ) (count : Term) → j < k → slice_get cover j ≡ Some value → slice_get counts j ≡ Some count → IsCountLine xs s.doms value count

pub counting_none : (xs : List Term) (cover : List ℤ) (counts : List Term) (r : Stored) → IsCounting xs cover counts r r false 0
counting_none xs cover counts r = record { kept = kept_none (AreCountsOf xs cover counts) r; lines = λ e j value count below. absurd (omega (arith, below)) }

pub counting_same : (xs : List Term) (cover : List ℤ) (counts : List Term) (r s t : Stored) (has_changed : Bool) (k : ℕ) (value : ℤ) (count : Term) → slice_get cover k ≡ Some value
    → slice_get counts k ≡ Some count → t ≡ s → IsCountLine xs t.doms value count → IsCounting xs cover counts r s has_changed k → IsCounting xs cover counts r t has_changed (k + 1)
counting_same xs cover counts r s t has_changed k value count at_value at_count same here h = record {
  kept = kept_same (AreCountsOf xs cover counts) (AreCountsOf xs cover counts) r s t has_changed h.kept same;
  lines = λ unchanged j v c below at_v at_c. elim (cases_eq j k) [
    | inl e ↦
        let same_value : value ≡ v = cc (at_value, subst (λ (m : ℕ). slice_get cover m ≡ Some v) e at_v) in
        let same_count : count ≡ c = cc (at_count, subst (λ (m : ℕ). slice_get counts m ≡ Some c) e at_c) in
        subst (λ (n : ℤ). IsCountLine xs t.doms n c) same_value (subst (λ (u : Term). IsCountLine xs t.doms value u) same_count here)
    | inr other ↦ subst (λ (u : Stored). IsCountLine xs u.doms v c) (sym same) (h.lines unchanged j v c (omega (arith, below, other)) at_v at_c)
  ];
}

pub counting_changed : (xs : List Term) (cover : List ℤ) (counts : List Term) (r s t : Stored) (has_changed : Bool) (k : ℕ) (value : ℤ) (count : Term) → slice_get cover k ≡ Some value
    → slice_get counts k ≡ Some count → Shrinks s t → IsCorrectOf (IsCount xs value count) s.doms t.doms → IsOutcome Changed (IsCount xs value count) s t
    → IsCounting xs cover counts r s has_changed k → IsCounting xs cover counts r t true (k + 1)
counting_changed xs cover counts r s t has_changed k value count at_value at_count shrinks correct less h = record {
  kept = kept_changed (AreCountsOf xs cover counts) (IsCount xs value count) r s t has_changed h.kept (λ a holds. count_at (term_values a xs) cover counts a k value count at_value at_count holds) shrinks correct less;
  lines = λ e. absurd (cc (e));
}

pub counting_all : (xs : List Term) (cover : List ℤ) (counts : List Term) (r s : Stored) (k : ℕ) → length cover ≡ length counts → length cover ≤ k → IsCounting xs cover counts r s false k
    → AreCountLines xs cover counts s.doms
counting_all xs cover counts r s k same end h = record {
  size = same;
  each = λ j value count at_value at_count. (let inside = slice_get_within cover j value at_value in h.lines refl j value count (omega (arith, inside, end)) at_value at_count);
}
