-- Keeping terms out of an interval that others fill, one after the other.
use Rattle.std.proofs.Common.{◌≡◌, ℕ, List, arith, length, Result, false, sym, subst}
use Rattle.std.specs.Prelude.{ℤ, pos, ◌+ℤ◌, ◌-ℤ◌, ◌≤ℤ◌, ◌<ℤ◌, int_le, ◌&&◌, IfOk, OnErr, slice_get, Some}
use Rattle.std.specs.List.{AllByRecursion}
use Rattle.std.proofs.lemmas.Int.{ints, by_lt_z}
use Rattle.fz_sets.proofs.Lists.{all_at}
use Rattle.fz_dom.specs.declared.change.Change.{Change}
use Rattle.fz_dom.specs.declared.change.Change.TheVariants.{Same, Changed, Wiped}
use Rattle.fz_dom.specs.Shape.{least, greatest}
use Rattle.fz_dom.proofs.Ranges.{least_member, greatest_member}
use Rattle.fz_sets.specs.Sets.{IsInSet}
use Rattle.fz_spec.specs.declared.term.Term.{Term}
use Rattle.fz_spec.specs.Constraints.{term_value}
use Rattle.fz_strength.specs.Domains.{term_set, AreDomains, Within, IsNarrower, IsTermOf}
use Rattle.fz_prop.specs.Answers.{IsCorrectOf}
use Rattle.fz_prop.specs.Outcomes.{IsOutcome}
use Rattle.fz_prop.specs.Stores.{Stored, Shrinks, IsTermChange}
use Rattle.fz_prop.proofs.Filled.{term_ranges}
use Rattle.fz_prop.proofs.TermChanges.{kept_term, same_store}
use Rattle.fz_prop.proofs.Keeping.{change_correct, change_outcome}
use Rattle.fz_alldiff.specs.Differing.{IsDifferent}
use Rattle.fz_strength.specs.Differences.{is_confined}
use Rattle.fz_hall.specs.Intervals.{IsFull, IsKeptOut}
use Rattle.fz_hall.specs.Lefts.{IfSame}
use Rattle.fz_hall.proofs.Crowding.{both_from, not_true}
use Rattle.fz_hall.proofs.Confining.{value_from, value_to, confined_is, still_confined, kept_out}

-- ---- one term

-- with its least number in the interval, and its greatest after it
pub stands_behind : (ds : List (List (ℤ × ℤ))) (a : List ℤ) (low high : ℤ) (t : Term) → IsTermOf (length ds) t → AreDomains ds → low ≤ℤ least (term_set ds t) → high <ℤ greatest (term_set ds t)
    → Within ds a → IsKeptOut ds t low high a → (high +ℤ pos 1) ≤ℤ term_value a t
stands_behind ds a low high t is domains since behind within out =
    let v = term_value a t in
    let from = value_from ds a t is domains within in
    by_lt_z high v
    (λ above. omega (arith, ints, above))
    (λ below.
    let outside = not_true (is_confined ds low high t) (λ h. let g = (confined_is ds low high t h).1 in omega (arith, ints, g, behind)) in
    let inside = both_from low v v high (omega (arith, ints, since, from)) below in
    let no = out outside in
    absurd (cc (inside, no)))

-- with its greatest number in the interval, and its least before it
pub stands_before : (ds : List (List (ℤ × ℤ))) (a : List ℤ) (low high : ℤ) (t : Term) → IsTermOf (length ds) t → AreDomains ds → greatest (term_set ds t) ≤ℤ high → least (term_set ds t) <ℤ low
    → Within ds a → IsKeptOut ds t low high a → term_value a t ≤ℤ (low -ℤ pos 1)
stands_before ds a low high t is domains until before within out =
    let v = term_value a t in
    let to = value_to ds a t is domains within in
    by_lt_z v low
    (λ below. omega (arith, ints, below))
    (λ above.
    let outside = not_true (is_confined ds low high t) (λ h. let l = (confined_is ds low high t h).0 in omega (arith, ints, l, before)) in
    let inside = both_from low v v high above (omega (arith, ints, until, to)) in
    let no = out outside in
    absurd (cc (inside, no)))

-- what isn't within goes on after it, or begins before it
pub goes_on : (low high a b : ℤ) → (int_le low a && int_le b high) ≡ false → low ≤ℤ a → high <ℤ b
goes_on low high a b outside from = by_lt_z high b (λ behind. behind) (λ within. let yes = both_from low a b high from within in absurd (cc (yes, outside)))

pub begins_before : (low high a b : ℤ) → (int_le low a && int_le b high) ≡ false → b ≤ℤ high → a <ℤ low
begins_before low high a b outside to = by_lt_z a low (λ before. before) (λ within. let yes = both_from low a b high within to in absurd (cc (yes, outside)))

same_holds : (t : Term) (P : ℤ → Type 0) (r s : Stored) → IsTermChange Same t P r s → (x : ℤ) → IsInSet (term_set r.doms t) x → P x
same_holds t P r s h x is = (kept_term Same t P r s h (λ e. absurd (cc (e))) x (subst (λ (u : Stored). IsInSet (term_set u.doms t) x) (sym (same_store t P r s h)) is)).1

-- a number that is to go isn't left where nothing changed
pub never_same : (change : Change) (t : Term) (P : ℤ → Type 0) (R : Type 0) (r s : Stored) → IsTermChange change t P r s → (x : ℤ) → IsInSet (term_set r.doms t) x → (P x → ⊥) → IfSame change R
never_same Same t P R r s h x is gone = absurd (gone (same_holds t P r s h x is))
never_same Changed t P R r s h x is gone = tt
never_same Wiped t P R r s h x is gone = tt

pub least_in : (ds : List (List (ℤ × ℤ))) (t : Term) → IsTermOf (length ds) t → AreDomains ds → IsInSet (term_set ds t) (least (term_set ds t))
least_in ds t is domains = let has = term_ranges ds t is domains in (least_member (term_set ds t) has.some has.ranges).0

pub greatest_in : (ds : List (List (ℤ × ℤ))) (t : Term) → IsTermOf (length ds) t → AreDomains ds → IsInSet (term_set ds t) (greatest (term_set ds t))
greatest_in ds t is domains = let has = term_ranges ds t is domains in (greatest_member (term_set ds t) has.some has.ranges).0

outcome_within : (change : Change) (T : List ℤ → Type 0) (r s : Stored) → IsOutcome change (λ a. T a × Within r.doms a) r s → IsOutcome change T r s
outcome_within Same T r s h = h
outcome_within Changed T r s h = h
outcome_within Wiped T r s h = λ a within holds. h a within (holds, within)

pub out_correct : {E : Type 0} (o : Result Change E) (t : Term) (P : ℤ → Type 0) (low high : ℤ) (r s : Stored) → ((a : List ℤ) → Within r.doms a → IsKeptOut r.doms t low high a → P (term_value a t))
    → OnErr o (s ≡ r) → IfOk o (λ change. IsTermChange change t P r s) → Shrinks r s → IsCorrectOf (IsKeptOut r.doms t low high) r.doms s.doms
out_correct o t P low high r s needs err h shrinks = λ a out within.
    change_correct o t P (λ b. IsKeptOut r.doms t low high b × Within r.doms b) r s (λ b both. needs b both.1 both.0) err h shrinks a (out, within) within

pub out_outcome : (change : Change) (t : Term) (P : ℤ → Type 0) (low high : ℤ) (r s : Stored) → IsTermOf (length r.doms) t
    → ((a : List ℤ) → Within r.doms a → IsKeptOut r.doms t low high a → P (term_value a t)) → IsTermChange change t P r s → IsOutcome change (IsKeptOut r.doms t low high) r s
out_outcome change t P low high r s is needs h =
    outcome_within change (IsKeptOut r.doms t low high) r s (change_outcome change t P (λ b. IsKeptOut r.doms t low high b × Within r.doms b) r s is (λ b both. needs b both.1 both.0) h)

-- ---- one after the other

-- the terms are different, and all is within the domains of the beginning
abbrev pub IsGiven : List Term → Stored → List ℤ → Type 0
IsGiven xs r a = IsDifferent xs a × Within r.doms a

pub given_correct : (xs : List Term) (r s : Stored) → IsCorrectOf (IsGiven xs r) r.doms s.doms → IsCorrectOf (IsDifferent xs) r.doms s.doms
given_correct xs r s h = λ a different within. h a (different, within) within

pub given_outcome : (change : Change) (xs : List Term) (r s : Stored) → IsOutcome change (IsGiven xs r) r s → IsOutcome change (IsDifferent xs) r s
given_outcome change xs r s h = outcome_within change (IsDifferent xs) r s h

-- what isn't confined by now wasn't at the beginning
pub given_out : (r s : Stored) (low high : ℤ) (xs : List Term) (j : ℕ) (t : Term) → AllByRecursion (IsTermOf (length r.doms)) xs → AreDomains r.doms → AreDomains s.doms → IsNarrower r.doms s.doms
    → IsFull r.doms xs low high → slice_get xs j ≡ Some t → (a : List ℤ) → IsGiven xs r a → IsKeptOut s.doms t low high a
given_out r s low high xs j t terms before after narrower full at a given = λ outside.
    let is = all_at (IsTermOf (length r.doms)) xs j t terms at in
    kept_out r.doms a low high xs j t terms before full at given.1 given.0
    (not_true (is_confined r.doms low high t) (λ h. let still = still_confined r.doms s.doms low high t is before after narrower h in absurd (cc (still, outside))))
