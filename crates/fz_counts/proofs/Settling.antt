-- Places that may have a value and needn't, one after the other.
use Rattle.std.proofs.Common.{◌≡◌, ℕ, ◌+◌, ◌<◌, ◌≤◌, List, Bool, true, false, refl, sym, subst, length, get_or, take, take_all, add-one, Result}
use Rattle.std.specs.Prelude.{ℤ, IfOk, OnErr, slice_get, Some}
use Rattle.std.specs.List.{AllByRecursion}
use Rattle.fz_sets.specs.Sets.{IsInSet}
use Rattle.fz_sets.proofs.Lists.{all_at, all_more}
use Rattle.fz_dom.specs.declared.change.Change.{Change}
use Rattle.fz_dom.specs.declared.change.Change.TheVariants.{Same, Changed}
use Rattle.fz_spec.specs.declared.term.Term.{Term}
use Rattle.fz_strength.specs.Counts.{IsDecided}
use Rattle.fz_strength.specs.Domains.{term_set, AreDomains, IsNarrower, IsTermOf}
use Rattle.fz_prop.specs.Answers.{IsCorrectOf}
use Rattle.fz_prop.specs.Outcomes.{IsOutcome}
use Rattle.fz_prop.specs.Stores.{Stored, Shrinks, IsTermChange}
use Rattle.fz_prop.proofs.Filled.{term_ranges, one_left, still_only}
use Rattle.fz_prop.proofs.Keeping.{IsKept, kept_none, kept_same, kept_changed, change_correct, change_outcome}
use Rattle.fz_prop.proofs.TermChanges.{narrower_term, kept_term, same_store}
use Rattle.fz_counts.specs.declared.places.Choice.{Choice}
use Rattle.fz_counts.specs.declared.places.Choice.TheVariants.{Without, With}
use Rattle.fz_counts.specs.Counting.{IsOpen, IsSettled, IsChosen, Goes, AllGo}

-- ---- one place

pub same_holds : (t : Term) (P : ℤ → Type 0) (r s : Stored) → IsTermChange Same t P r s → (x : ℤ) → IsInSet (term_set r.doms t) x → P x
same_holds t P r s h x is = (kept_term Same t P r s h (λ e. absurd (cc (e))) x (subst (λ (u : Stored). IsInSet (term_set u.doms t) x) (sym (same_store t P r s h)) is)).1

-- an open place that goes either way isn't left as it was
settled_same : (choice : Choice) (value : ℤ) (t : Term) (r s : Stored) → IsTermOf (length r.doms) t → AreDomains r.doms → IsOpen value r.doms t → IsTermChange Same t (IsChosen choice value) r s → ⊥
settled_same Without value t r s is domains opened h = same_holds t (IsChosen Without value) r s h value opened.0 refl
settled_same With value t r s is domains opened h =
    opened.1 (one_left (term_set r.doms t) value (term_ranges r.doms t is domains) (λ u i. same_holds t (IsChosen With value) r s h u i))

pub settled_by : (change : Change) (choice : Choice) (value : ℤ) (t : Term) (r s : Stored) → IsTermOf (length r.doms) t → AreDomains r.doms → IsOpen value r.doms t
    → IsTermChange change t (IsChosen choice value) r s → change ≡ Same → IsSettled value s.doms t
settled_by outcome choice value t r s is domains opened h same =
    absurd (settled_same choice value t r s is domains opened (subst (λ (c : Change). IsTermChange c t (IsChosen choice value) r s) same h))

pub chosen_correct : {E : Type 0} (o : Result Change E) (choice : Choice) (value : ℤ) (t : Term) (r s : Stored) → IsOpen value r.doms t → OnErr o (s ≡ r)
    → IfOk o (λ change. IsTermChange change t (IsChosen choice value) r s) → Shrinks r s → IsCorrectOf (λ a. Goes choice value r.doms a t) r.doms s.doms
chosen_correct o choice value t r s opened err h shrinks = change_correct o t (IsChosen choice value) (λ a. Goes choice value r.doms a t) r s (λ a goes. goes opened) err h shrinks

pub chosen_outcome : (change : Change) (choice : Choice) (value : ℤ) (t : Term) (r s : Stored) → IsTermOf (length r.doms) t → IsOpen value r.doms t → IsTermChange change t (IsChosen choice value) r s
    → IsOutcome change (λ a. Goes choice value r.doms a t) r s
chosen_outcome change choice value t r s is opened h = change_outcome change t (IsChosen choice value) (λ a. Goes choice value r.doms a t) r s is (λ a goes. goes opened) h

-- what is open by now was so
open_before : (value : ℤ) (ds es : List (List (ℤ × ℤ))) (t : Term) → IsTermOf (length ds) t → AreDomains es → IsNarrower ds es → IsOpen value es t → IsOpen value ds t
open_before value ds es t is domains narrower opened = (narrower_term ds es t narrower value opened.0, λ only. opened.1 (still_only ds es t value is only domains narrower))

pub goes_at : (choice : Choice) (value : ℤ) (xs : List Term) (r s : Stored) (k : ℕ) (x : Term) → AllByRecursion (IsTermOf (length r.doms)) xs → AreDomains s.doms → IsNarrower r.doms s.doms
    → slice_get xs k ≡ Some x → (a : List ℤ) → AllGo choice value xs r.doms a → Goes choice value s.doms a x
goes_at choice value xs r s k x terms domains narrower at a all = λ opened.
    all_at (Goes choice value r.doms a) xs k x all at (open_before value r.doms s.doms x (all_at (IsTermOf (length r.doms)) xs k x terms at) domains narrower opened)

-- ---- the loop

-- No assignment is lost that goes this way, and where nothing changed the places before k are settled.
pub record IsSettling (choice : Choice) (value : ℤ) (xs : List Term) (r s : Stored) (has_changed : Bool) (k : ℕ) : Type 0 where
  pub kept : IsKept (AllGo choice value xs r.doms) r s has_changed
  pub settled : has_changed ≡ false → AllByRecursion (IsSettled value s.doms) (take k xs)

pub settling_none : (choice : Choice) (value : ℤ) (xs : List Term) (r : Stored) → IsSettling choice value xs r r false 0
settling_none choice value xs r = record { kept = kept_none (AllGo choice value xs r.doms) r; settled = λ e. tt }

pub settling_same : (choice : Choice) (value : ℤ) (xs : List Term) (r s t : Stored) (has_changed : Bool) (k : ℕ) (d : Term) → k < length xs → t ≡ s → IsSettled value t.doms (get_or xs k d)
    → IsSettling choice value xs r s has_changed k → IsSettling choice value xs r t has_changed (k + 1)
settling_same choice value xs r s t has_changed k d within same here h = record {
  kept = kept_same (AllGo choice value xs r.doms) (AllGo choice value xs r.doms) r s t has_changed h.kept same;
  settled = λ unchanged.
      rw add-one (all_more (IsSettled value t.doms) xs k d within (subst (λ (u : Stored). AllByRecursion (IsSettled value u.doms) (take k xs)) (sym same) (h.settled unchanged)) here);
}

pub settling_changed : (choice : Choice) (value : ℤ) (xs : List Term) (r s t : Stored) (has_changed : Bool) (k : ℕ) (x : Term) → AllByRecursion (IsTermOf (length r.doms)) xs → AreDomains s.doms
    → slice_get xs k ≡ Some x → Shrinks s t → IsCorrectOf (λ a. Goes choice value s.doms a x) s.doms t.doms → IsOutcome Changed (λ a. Goes choice value s.doms a x) s t
    → IsSettling choice value xs r s has_changed k → IsSettling choice value xs r t true (k + 1)
settling_changed choice value xs r s t has_changed k x terms domains at shrinks correct less h = record {
  kept = kept_changed (AllGo choice value xs r.doms) (λ a. Goes choice value s.doms a x) r s t has_changed h.kept
      (goes_at choice value xs r s k x terms domains h.kept.shrinks.narrower at) shrinks correct less;
  settled = λ e. absurd (cc (e));
}

pub settled_all : (value : ℤ) (xs : List Term) (ds : List (List (ℤ × ℤ))) (k : ℕ) → length xs ≤ k → AllByRecursion (IsSettled value ds) (take k xs) → IsDecided xs ds value
settled_all value xs ds k end all = subst (λ (ys : List Term). AllByRecursion (IsSettled value ds) ys) (take_all k xs end) all
