-- Keeping a count between two numbers of places.
use Rattle.std.proofs.Common.{◌≡◌, ℕ, List, refl, arith, length, Result}
use Rattle.std.specs.Prelude.{ℤ, pos, ◌↔◌, ◌≤ℤ◌, IfOk, OnErr}
use Rattle.std.specs.List.{AllByRecursion}
use Rattle.std.proofs.lemmas.Int.{ints}
use Rattle.fz_sets.specs.Sets.{IsInSet}
use Rattle.fz_dom.specs.Changes.{IsFromTo}
use Rattle.fz_dom.specs.declared.change.Change.{Change}
use Rattle.fz_dom.specs.declared.change.Change.TheVariants.{Same, Changed, Wiped}
use Rattle.fz_dom.specs.Shape.{least, greatest}
use Rattle.fz_dom.proofs.Ranges.{least_member, greatest_member}
use Rattle.fz_spec.specs.declared.term.Term.{Term}
use Rattle.fz_spec.specs.declared.term.Term.TheVariants.{Num, Var}
use Rattle.fz_strength.specs.Counts.{fewest, most}
use Rattle.fz_strength.specs.Domains.{term_set, AreDomains, Within, IsTermOf}
use Rattle.fz_strength.proofs.Terms.{in_single}
use Rattle.fz_prop.specs.Answers.{IsCorrectOf}
use Rattle.fz_prop.specs.Outcomes.{IsOutcome}
use Rattle.fz_prop.specs.Stores.{Stored, Shrinks, IsTermChange}
use Rattle.fz_prop.proofs.Filled.{term_ranges}
use Rattle.fz_prop.proofs.Keeping.{change_correct, change_outcome}
use Rattle.fz_prop.proofs.Steps.{change_at_as}
use Rattle.fz_counts.specs.Counting.{IsCount}
use Rattle.fz_counts.proofs.Counting.{count_between}
use Rattle.fz_counts.proofs.Covering.{outcome_by, correct_by}
use Rattle.fz_counts.proofs.Settling.{same_holds}

-- ---- changes of a term

-- by another property that says the same of all that is left
pub term_change_as : (change : Change) (t : Term) (P Q : ℤ → Type 0) (r s : Stored) → ((x : ℤ) → IsInSet (term_set r.doms t) x → P x ↔ Q x) → IsTermChange change t P r s → IsTermChange change t Q r s
term_change_as change (Var v) P Q r s f h = change_at_as change v P Q r s f h
term_change_as Same (Num n) P Q r s f h = (h.0, (f n (in_single n n refl)).0 h.1)
term_change_as Wiped (Num n) P Q r s f h = (h.0, λ q. h.1 ((f n (in_single n n refl)).1 q))
term_change_as Changed (Num n) P Q r s f h = absurd h

pub wiped_term : (t : Term) (P : ℤ → Type 0) (r : Stored) → ((x : ℤ) → IsInSet (term_set r.doms t) x → P x → ⊥) → IsTermChange Wiped t P r r
wiped_term (Var v) P r none = (refl, none)
wiped_term (Num n) P r none = (refl, λ is. none n (in_single n n refl) is)

pub same_between : (low high from to x : ℤ) → low ≡ from → (x ≤ℤ high) ↔ (x ≤ℤ to) → IsFromTo low high x ↔ IsFromTo from to x
same_between low high from to x same both = (
  (λ h. (let l = h.0 in omega (arith, ints, l, same), both.0 h.1)),
  (λ h. (let l = h.0 in omega (arith, ints, l, same), both.1 h.1)),
)

-- ---- a count that is kept between the fewest and the most

pub between_correct : {E : Type 0} (o : Result Change E) (value : ℤ) (xs : List Term) (count : Term) (f m : ℕ) (r s : Stored) → AllByRecursion (IsTermOf (length r.doms)) xs → AreDomains r.doms
    → f ≡ fewest xs r.doms value → m ≡ most xs r.doms value → OnErr o (s ≡ r) → IfOk o (λ change. IsTermChange change count (λ x. IsFromTo (pos f) (pos m) x) r s) → Shrinks r s
    → IsCorrectOf (IsCount xs value count) r.doms s.doms
between_correct o value xs count f m r s terms domains is_f is_m err h shrinks =
    correct_by (λ a. IsCount xs value count a × Within r.doms a) (IsCount xs value count) r.doms s.doms (λ a within is. (is, within))
    (change_correct o count (λ x. IsFromTo (pos f) (pos m) x) (λ a. IsCount xs value count a × Within r.doms a) r s
    (λ a both. rw (is_f, is_m) (count_between r.doms a value xs count terms domains both.1 both.0)) err h shrinks)

pub between_outcome : (change : Change) (value : ℤ) (xs : List Term) (count : Term) (f m : ℕ) (r s : Stored) → AllByRecursion (IsTermOf (length r.doms)) xs → IsTermOf (length r.doms) count → AreDomains r.doms
    → f ≡ fewest xs r.doms value → m ≡ most xs r.doms value → IsTermChange change count (λ x. IsFromTo (pos f) (pos m) x) r s → IsOutcome change (IsCount xs value count) r s
between_outcome change value xs count f m r s terms term domains is_f is_m h =
    outcome_by change (λ a. IsCount xs value count a × Within r.doms a) (IsCount xs value count) r s (λ a within is. (is, within))
    (change_outcome change count (λ x. IsFromTo (pos f) (pos m) x) (λ a. IsCount xs value count a × Within r.doms a) r s term
    (λ a both. rw (is_f, is_m) (count_between r.doms a value xs count terms domains both.1 both.0)) h)

-- what is left of it where nothing changed
pub least_between : (count : Term) (f m : ℕ) (r s : Stored) → IsTermOf (length r.doms) count → AreDomains r.doms → IsTermChange Same count (λ x. IsFromTo (pos f) (pos m) x) r s
    → (pos f ≤ℤ least (term_set r.doms count)) × (greatest (term_set r.doms count) ≤ℤ pos m)
least_between count f m r s is domains h =
    let d = term_set r.doms count in
    let has = term_ranges r.doms count is domains in
    let all = same_holds count (λ x. IsFromTo (pos f) (pos m) x) r s h in
    ((all (least d) (least_member d has.some has.ranges).0).0, (all (greatest d) (greatest_member d has.some has.ranges).0).1)
