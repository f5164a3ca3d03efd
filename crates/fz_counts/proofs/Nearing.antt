-- Places that lie both in and outside of a cover, and terms near their ends, one after the other.
use Rattle.std.proofs.Common.{◌≡◌, ℕ, Bool, true, List, refl, subst, sym, arith, length}
use Rattle.std.specs.Prelude.{ℤ, ◌↔◌, ◌+ℤ◌, ◌-ℤ◌, ◌≤ℤ◌, slice_get, Some}
use Rattle.std.specs.List.{AllByRecursion}
use Rattle.std.proofs.lemmas.Int.{ints}
use Rattle.fz_sets.specs.Sets.{IsInSet}
use Rattle.fz_sets.proofs.Lists.{all_at}
use Rattle.fz_dom.specs.declared.change.Change.TheVariants.{Same, Changed, Wiped}
use Rattle.fz_dom.specs.Changes.{IsFromTo}
use Rattle.fz_dom.specs.Shape.{least, greatest}
use Rattle.fz_dom.proofs.Ranges.{least_below, upper_bound, least_member, greatest_member}
use Rattle.fz_spec.specs.declared.term.Term.{Term}
use Rattle.fz_spec.specs.declared.term.Term.TheVariants.{Num, Var}
use Rattle.fz_spec.specs.Constraints.{term_value}
use Rattle.fz_strength.specs.Domains.{term_set, AreDomains, IsNarrower, IsTermOf}
use Rattle.fz_strength.proofs.Terms.{in_single}
use Rattle.fz_prop.specs.Stores.{Stored, Shrinks, IsTermChange}
use Rattle.fz_prop.specs.Outcomes.{IsOutcome}
use Rattle.fz_prop.proofs.Filled.{term_ranges}
use Rattle.fz_prop.proofs.TermChanges.{narrower_term, within_kept, falls_of, same_store}
use Rattle.fz_prop.proofs.Keeping.{IsKept, kept_same, kept_changed, kept_wiped, change_outcome}
use Rattle.fz_counts.specs.declared.cover.Cover.{Cover}
use Rattle.fz_counts.specs.declared.ends.Slack.{Slack}
use Rattle.fz_counts.specs.declared.places.Choice.{Choice}
use Rattle.fz_counts.specs.Covers.{IsMixed, Sides, AllSide, IsNearEnds, AllNear}

-- what is mixed by now was so
mixed_before : (c : Cover) (ds es : List (List (ℤ × ℤ))) (t : Term) → IsNarrower ds es → IsMixed c es t → IsMixed c ds t
mixed_before c ds es t narrower mixed = (
  (λ inside. mixed.0 (λ x is. inside x (narrower_term ds es t narrower x is))),
  (λ outside. mixed.1 (λ x is. outside x (narrower_term ds es t narrower x is))),
)

pub sides_at : (choice : Choice) (c : Cover) (xs : List Term) (r s : Stored) (k : ℕ) (x : Term) → IsNarrower r.doms s.doms → slice_get xs k ≡ Some x → (a : List ℤ) → AllSide choice c xs r.doms a
    → Sides choice c s.doms a x
sides_at choice c xs r s k x narrower at a all = λ mixed. all_at (Sides choice c r.doms a) xs k x all at (mixed_before c r.doms s.doms x narrower mixed)

-- ends come nearer where less is left
near_after : (ds es : List (List (ℤ × ℤ))) (t : Term) (slack : Slack) (x : ℤ) → IsTermOf (length ds) t → IsTermOf (length es) t → AreDomains ds → AreDomains es → IsNarrower ds es
    → IsNearEnds slack (term_set ds t) x → IsNearEnds slack (term_set es t) x
near_after ds es t slack x is_ds is_es before after narrower near =
    let d = term_set ds t in
    let e = term_set es t in
    let was = term_ranges ds t is_ds before in
    let has = term_ranges es t is_es after in
    let low = least_below d (least e) was.ranges (narrower_term ds es t narrower (least e) (least_member e has.some has.ranges).0) in
    let high = upper_bound d (greatest e) was.ranges (narrower_term ds es t narrower (greatest e) (greatest_member e has.some has.ranges).0) in
    let from = near.0 in
    let to = near.1 in
    (omega (arith, ints, from, high), omega (arith, ints, to, low))

pub near_at : (slack : Slack) (xs : List Term) (r s : Stored) (k : ℕ) (x : Term) → AllByRecursion (IsTermOf (length r.doms)) xs → AreDomains r.doms → AreDomains s.doms → IsNarrower r.doms s.doms
    → slice_get xs k ≡ Some x → (a : List ℤ) → AllNear slack xs r.doms a → IsNearEnds slack (term_set s.doms x) (term_value a x)
near_at slack xs r s k x terms before after narrower at a all =
    let is = all_at (IsTermOf (length r.doms)) xs k x terms at in
    near_after r.doms s.doms x slack (term_value a x) is (subst (λ (n : ℕ). IsTermOf n x) (sym narrower.size) is) before after narrower
    (all_at (λ (t : Term). IsNearEnds slack (term_set r.doms t) (term_value a t)) xs k x all at)

-- nothing is to change where all that is left has the property
pub same_term : (t : Term) (P : ℤ → Type 0) (r : Stored) → ((x : ℤ) → IsInSet (term_set r.doms t) x → P x) → IsTermChange Same t P r r
same_term (Var v) P r all = (refl, all)
same_term (Num n) P r all = (refl, all n (in_single n n refl))

-- ---- one term more

pub term_wiped : (T : List ℤ → Type 0) (x : Term) (Q : ℤ → Type 0) (r s t u : Stored) (has_changed : Bool) → IsTermOf (length s.doms) x → ((a : List ℤ) → T a → Q (term_value a x)) → IsTermChange Wiped x Q s t
    → IsKept T r s has_changed → IsOutcome Wiped T r u
term_wiped T x Q r s t u has_changed is needs change h = kept_wiped T (λ a. Q (term_value a x)) r s t u has_changed h needs (change_outcome Wiped x Q (λ a. Q (term_value a x)) s t is (λ a q. q) change)

pub term_changed : (T : List ℤ → Type 0) (x : Term) (Q : ℤ → Type 0) (r s t : Stored) (has_changed : Bool) → ((a : List ℤ) → T a → Q (term_value a x)) → Shrinks s t → IsTermChange Changed x Q s t
    → IsKept T r s has_changed → IsKept T r t true
term_changed T x Q r s t has_changed needs shrinks change h =
    kept_changed T (λ a. Q (term_value a x)) r s t has_changed h needs shrinks (λ a q within. within_kept Changed x Q s t a change shrinks within q) (falls_of x Q s t change)

pub term_same : (T : List ℤ → Type 0) (x : Term) (Q : ℤ → Type 0) (r s t : Stored) (has_changed : Bool) → IsTermChange Same x Q s t → IsKept T r s has_changed → IsKept T r t has_changed
term_same T x Q r s t has_changed change h = kept_same T T r s t has_changed h (same_store x Q s t change)

-- ---- near the ends, by two numbers

pub near_as : (slack : Slack) (d : List (ℤ × ℤ)) (low high bottom top x : ℤ) → bottom ≡ least d → top ≡ greatest d → (low ≤ℤ x) ↔ ((top -ℤ slack.below) ≤ℤ x) → (x ≤ℤ high) ↔ (x ≤ℤ (bottom +ℤ slack.above))
    → IsFromTo low high x ↔ IsNearEnds slack d x
near_as slack d low high bottom top x is_bottom is_top lows highs = (
  (λ h. (let from = lows.0 h.0 in let to = highs.0 h.1 in (omega (arith, ints, from, is_top), omega (arith, ints, to, is_bottom)))),
  (λ h. (let from = h.0 in let to = h.1 in (lows.1 (omega (arith, ints, from, is_top)), highs.1 (omega (arith, ints, to, is_bottom))))),
)
