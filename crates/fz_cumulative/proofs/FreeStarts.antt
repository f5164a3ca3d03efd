-- Keeping the starts of tasks to where they aren't blocked, one after the other.
use Rattle.std.proofs.Common.{◌≡◌, ℕ, ◌+◌, ◌<◌, ◌≤◌, List, Bool, true, false, inl, inr, refl, sym, ap, subst, ◌∙◌, arith, length, get_or}
use Rattle.std.specs.Prelude.{ℤ, pos, ◌≤ℤ◌, ◌<ℤ◌, slice_get, Some}
use Rattle.std.specs.List.{AllByRecursion}
use Rattle.std.proofs.lemmas.Bool.{cases_eq}
use Rattle.std.proofs.lemmas.Int.{ints, by_lt_z}
use Rattle.std.proofs.lemmas.Option.{slice_get_within, slice_get-get_or}
use Rattle.fz_sets.specs.Sets.{IsInSet}
use Rattle.fz_sets.proofs.Lists.{some_is, all_at}
use Rattle.fz_dom.specs.Shape.{least, greatest}
use Rattle.fz_dom.specs.declared.change.Change.{Change}
use Rattle.fz_dom.specs.declared.change.Change.TheVariants.{Same, Changed, Wiped}
use Rattle.fz_dom.proofs.Ranges.{least_member, greatest_member, least_below, upper_bound}
use Rattle.fz_spec.specs.declared.term.Term.{Term}
use Rattle.fz_spec.specs.declared.term.Term.TheVariants.{Num, Var}
use Rattle.fz_spec.specs.Constraints.{term_value}
use Rattle.fz_strength.specs.declared.open_task.OpenTask.{OpenTask}
use Rattle.fz_strength.specs.Cumulatives.{IsSound, HasRoom, open_tasks, parts_at}
use Rattle.fz_strength.specs.Domains.{term_set, room, AreDomains, Within, IsTermOf}
use Rattle.fz_strength.proofs.Terms.{is_single}
use Rattle.fz_prop.specs.Answers.{IsCorrectOf}
use Rattle.fz_prop.specs.Stores.{Stored, Shrinks, IsTermChange}
use Rattle.fz_prop.proofs.Filled.{term_ranges}
use Rattle.fz_prop.proofs.Steps.{same_shrinks}
use Rattle.fz_prop.proofs.TermChanges.{term_within, within_kept, none_kept, falls_of}
use Rattle.fz_prop.proofs.Twice.{shrinks_twice, room_after}
use Rattle.fz_cumulative.specs.declared.finding.Blocked.{Blocked}
use Rattle.fz_cumulative.specs.declared.finding.Blocked.TheVariants.{Everywhere, Before, After}
use Rattle.fz_cumulative.specs.Cumulatives.{TasksShare, TasksRest}
use Rattle.fz_cumulative.specs.Findings.{IsBlockedAt, IsFree}
use Rattle.fz_cumulative.specs.Outcomes.{AreStarts, AreFree, HaveRoom}
use Rattle.fz_cumulative.specs.Tasks.{profile_of}
use Rattle.fz_cumulative.proofs.Sharing.{IsSetting, terms_at, start_of, never_overloaded}
use Rattle.fz_cumulative.proofs.Whole.{overload_found, rest_found}

-- ---- one start

-- what a store and a task that is blocked there say of the start at the place
pub record IsHeld (ds : List (List (ℤ × ℤ))) (tasks : List OpenTask) (high : ℤ) (starts : List Term) (place : ℕ) (blocked : Blocked) (t : Term) : Type 0 where
  pub terms : AllByRecursion (IsTermOf (length ds)) starts
  pub domains : AreDomains ds
  pub tasks_are : AreStarts ds tasks starts
  pub held : IsBlockedAt tasks high place blocked
  pub at : slice_get starts place ≡ Some t

pub term_of : (ds : List (List (ℤ × ℤ))) (tasks : List OpenTask) (high : ℤ) (starts : List Term) (place : ℕ) (blocked : Blocked) (t : Term) → IsHeld ds tasks high starts place blocked t → IsTermOf (length ds) t
term_of ds tasks high starts place blocked t h = all_at (IsTermOf (length ds)) starts place t h.terms h.at

pub start_inside : (ds : List (List (ℤ × ℤ))) (tasks : List OpenTask) (starts : List Term) (place : ℕ) (d : OpenTask) → AreStarts ds tasks starts → place < length tasks → place < length starts
start_inside ds tasks starts place d are below =
    let w = are place (get_or tasks place d) (slice_get-get_or tasks place d below) in
    slice_get_within starts place w.0 w.1

-- where the task at a place is blocked, by the lists that are read
pub held_at : (ds : List (List (ℤ × ℤ))) (tasks : List OpenTask) (high : ℤ) (starts : List Term) (place : ℕ) (blocked : Blocked) (d : OpenTask) (e : Term)
    → AllByRecursion (IsTermOf (length ds)) starts → AreDomains ds → AreStarts ds tasks starts → place < length tasks → IsBlockedAt tasks high place blocked
    → IsHeld ds tasks high starts place blocked (get_or starts place e)
held_at ds tasks high starts place blocked d e terms domains are below held = record {
  terms = terms;
  domains = domains;
  tasks_are = are;
  held = held;
  at = slice_get-get_or starts place e (start_inside ds tasks starts place d are below);
}

-- the task goes from the least to the greatest of the start
record HasEnds (ds : List (List (ℤ × ℤ))) (t : Term) (task : OpenTask) : Type 0 where
  pub earliest : least (term_set ds t) ≡ task.earliest
  pub latest : greatest (term_set ds t) ≡ task.latest

ends_at : (ds : List (List (ℤ × ℤ))) (tasks : List OpenTask) (starts : List Term) (place : ℕ) (task : OpenTask) (t : Term) → AreStarts ds tasks starts → slice_get tasks place ≡ Some task → slice_get starts place ≡ Some t
    → HasEnds ds t task
ends_at ds tasks starts place task t are at_task at =
    let w = are place task at_task in
    let same : w.0 ≡ t = some_is w.0 t (sym w.1 ∙ at) in
    subst (λ (u : Term). HasEnds ds u task) same (record { earliest = w.2; latest = w.3 })

value_from : (ds : List (List (ℤ × ℤ))) (a : List ℤ) (t : Term) (task : OpenTask) → IsTermOf (length ds) t → AreDomains ds → HasEnds ds t task → Within ds a → task.earliest ≤ℤ term_value a t
value_from ds a t task of domains ends within =
    let low = least_below (term_set ds t) (term_value a t) (term_ranges ds t of domains).ranges (term_within ds a t of within) in
    let is = ends.earliest in
    omega (arith, ints, low, is)

value_to : (ds : List (List (ℤ × ℤ))) (a : List ℤ) (t : Term) (task : OpenTask) → IsTermOf (length ds) t → AreDomains ds → HasEnds ds t task → Within ds a → term_value a t ≤ℤ task.latest
value_to ds a t task of domains ends within =
    let high = upper_bound (term_set ds t) (term_value a t) (term_ranges ds t of domains).ranges (term_within ds a t of within) in
    let is = ends.latest in
    omega (arith, ints, high, is)

-- an assignment that leaves all tasks free gives the start a number that isn't blocked
pub value_free : (ds : List (List (ℤ × ℤ))) (a : List ℤ) (tasks : List OpenTask) (high : ℤ) (starts : List Term) (place : ℕ) (blocked : Blocked) (t : Term) → IsHeld ds tasks high starts place blocked t
    → Within ds a → AreFree tasks high starts a → IsFree blocked (term_value a t)
value_free ds a tasks high starts place Everywhere t h within free =
    let task = h.held.task in
    let of = term_of ds tasks high starts place Everywhere t h in
    let ends = ends_at ds tasks starts place task t h.tasks_are h.held.at h.at in
    free place task t h.held.at h.at (h.held.holds (term_value a t) (value_from ds a t task of h.domains ends within) (value_to ds a t task of h.domains ends within))
value_free ds a tasks high starts place (Before first) t h within free =
    let task = h.held.task in
    let of = term_of ds tasks high starts place (Before first) t h in
    let ends = ends_at ds tasks starts place task t h.tasks_are h.held.at h.at in
    by_lt_z (term_value a t) first
    (λ before. absurd (free place task t h.held.at h.at (h.held.holds.1 (term_value a t) (value_from ds a t task of h.domains ends within) before)))
    (λ behind. behind)
value_free ds a tasks high starts place (After last) t h within free =
    let task = h.held.task in
    let of = term_of ds tasks high starts place (After last) t h in
    let ends = ends_at ds tasks starts place task t h.tasks_are h.held.at h.at in
    by_lt_z last (term_value a t)
    (λ behind. absurd (free place task t h.held.at h.at (h.held.holds.1 (term_value a t) behind (value_to ds a t task of h.domains ends within))))
    (λ before. before)

-- a number of the start is blocked
pub some_blocked : (ds : List (List (ℤ × ℤ))) (tasks : List OpenTask) (high : ℤ) (starts : List Term) (place : ℕ) (blocked : Blocked) (t : Term) → IsHeld ds tasks high starts place blocked t
    → (x : ℤ) × IsInSet (term_set ds t) x × (IsFree blocked x → ⊥)
some_blocked ds tasks high starts place Everywhere t h =
    let has = term_ranges ds t (term_of ds tasks high starts place Everywhere t h) h.domains in
    (least (term_set ds t), (least_member (term_set ds t) has.some has.ranges).0, λ none. none)
some_blocked ds tasks high starts place (Before first) t h =
    let has = term_ranges ds t (term_of ds tasks high starts place (Before first) t h) h.domains in
    let is = (ends_at ds tasks starts place h.held.task t h.tasks_are h.held.at h.at).earliest in
    let below = h.held.holds.0 in
    (least (term_set ds t), (least_member (term_set ds t) has.some has.ranges).0, λ from. omega (arith, ints, is, below, from))
some_blocked ds tasks high starts place (After last) t h =
    let has = term_ranges ds t (term_of ds tasks high starts place (After last) t h) h.domains in
    let is = (ends_at ds tasks starts place h.held.task t h.tasks_are h.held.at h.at).latest in
    let above = h.held.holds.0 in
    (greatest (term_set ds t), (greatest_member (term_set ds t) has.some has.ranges).0, λ to. omega (arith, ints, is, above, to))

-- ---- the loop over the tasks

-- Starts before place k are kept to where they are free; where nothing changed, these tasks have room.
pub record AreKept (r s : Stored) (tasks : List OpenTask) (high : ℤ) (starts : List Term) (has_changed : Bool) (k : ℕ) : Type 0 where
  pub shrinks : Shrinks r s
  pub free : (a : List ℤ) → AreFree tasks high starts a → Within r.doms a → Within s.doms a
  pub falls : has_changed ≡ true → room s.doms < room r.doms
  pub same : has_changed ≡ false → s ≡ r
  pub roomy : has_changed ≡ false → HaveRoom tasks high k

pub kept_none : (s : Stored) (tasks : List OpenTask) (high : ℤ) (starts : List Term) → AreKept s s tasks high starts false 0
kept_none s tasks high starts = record {
  shrinks = same_shrinks s;
  free = λ a free within. within;
  falls = λ e. absurd (cc (e));
  same = λ e. refl;
  roomy = λ e i task below. absurd (omega (arith, below));
}

-- the task at the place has room
pub kept_passed : (r s : Stored) (tasks : List OpenTask) (high : ℤ) (starts : List Term) (has_changed : Bool) (k : ℕ) → ((task : OpenTask) → slice_get tasks k ≡ Some task → HasRoom tasks high k task)
    → AreKept r s tasks high starts has_changed k → AreKept r s tasks high starts has_changed (k + 1)
kept_passed r s tasks high starts has_changed k here h = record {
  shrinks = h.shrinks;
  free = h.free;
  falls = h.falls;
  same = h.same;
  roomy = λ e i task below at. elim (cases_eq i k) [
    | inl one ↦
        let P : ℕ → Type 0 = λ (j : ℕ). slice_get tasks j ≡ Some task in
        let Q : ℕ → Type 0 = λ (j : ℕ). HasRoom tasks high j task in
        subst Q (sym one) (here task (subst P one at))
    | inr other ↦ h.roomy e i task (omega (arith, below, other)) at
  ];
}

pub kept_free : (change : Change) (r s u : Stored) (tasks : List OpenTask) (high : ℤ) (starts : List Term) (place : ℕ) (blocked : Blocked) (t : Term) → IsHeld r.doms tasks high starts place blocked t
    → IsTermChange change t (IsFree blocked) s u → Shrinks s u → ((a : List ℤ) → AreFree tasks high starts a → Within r.doms a → Within s.doms a)
    → (a : List ℤ) → AreFree tasks high starts a → Within r.doms a → Within u.doms a
kept_free change r s u tasks high starts place blocked t held h shrinks so_far = λ a free within.
    within_kept change t (IsFree blocked) s u a h shrinks (so_far a free within) (value_free r.doms a tasks high starts place blocked t held within free)

-- no number of the start is free
pub kept_fails : (r s u : Stored) (tasks : List OpenTask) (high : ℤ) (starts : List Term) (has_changed : Bool) (place : ℕ) (blocked : Blocked) (t : Term) → IsHeld r.doms tasks high starts place blocked t
    → IsTermChange Wiped t (IsFree blocked) s u → AreKept r s tasks high starts has_changed place → (a : List ℤ) → Within r.doms a → AreFree tasks high starts a → ⊥
kept_fails r s u tasks high starts has_changed place blocked t held h so_far = λ a within free.
    let of : IsTermOf (length s.doms) t = subst (λ (n : ℕ). IsTermOf n t) (sym so_far.shrinks.narrower.size) (term_of r.doms tasks high starts place blocked t held) in
    none_kept t (IsFree blocked) s u h (term_value a t) (term_within s.doms a t of (so_far.free a free within)) (value_free r.doms a tasks high starts place blocked t held within free)

all_free : (t : Term) (P : ℤ → Type 0) (r s : Stored) → IsTermChange Same t P r s → (x : ℤ) → IsInSet (term_set r.doms t) x → P x
all_free (Var v) P r s h x is = h.1 x is
all_free (Num n) P r s h x is = subst P (sym (is_single x n is)) h.1

first_change : (change : Change) (r u : Stored) (tasks : List OpenTask) (high : ℤ) (starts : List Term) (place : ℕ) (blocked : Blocked) (t : Term) → IsHeld r.doms tasks high starts place blocked t
    → (change ≡ Wiped → ⊥) → IsTermChange change t (IsFree blocked) r u → room u.doms < room r.doms
first_change Wiped r u tasks high starts place blocked t held not h = absurd (not refl)
first_change Same r u tasks high starts place blocked t held not h =
    let w = some_blocked r.doms tasks high starts place blocked t held in
    absurd (w.2 (all_free t (IsFree blocked) r u h w.0 w.1))
first_change Changed r u tasks high starts place blocked t held not h = falls_of t (IsFree blocked) r u h

falls_more : (change : Change) (r s u : Stored) (tasks : List OpenTask) (high : ℤ) (starts : List Term) (has_changed : Bool) (place : ℕ) (blocked : Blocked) (t : Term)
    → IsHeld r.doms tasks high starts place blocked t → (change ≡ Wiped → ⊥) → IsTermChange change t (IsFree blocked) s u → Shrinks s u → AreKept r s tasks high starts has_changed place
    → room u.doms < room r.doms
falls_more _ r s u tasks high starts true place blocked t held not h shrinks so_far =
    let less = so_far.falls refl in
    let now = room_after s u shrinks in
    omega (arith, less, now)
falls_more change r s u tasks high starts false place blocked t held not h shrinks so_far =
    first_change change r u tasks high starts place blocked t held not (subst (λ (v : Stored). IsTermChange change t (IsFree blocked) v u) (so_far.same refl) h)

pub kept_more : (change : Change) (r s u : Stored) (tasks : List OpenTask) (high : ℤ) (starts : List Term) (has_changed : Bool) (place : ℕ) (blocked : Blocked) (t : Term)
    → IsHeld r.doms tasks high starts place blocked t → (change ≡ Wiped → ⊥) → IsTermChange change t (IsFree blocked) s u → Shrinks s u → AreKept r s tasks high starts has_changed place
    → AreKept r u tasks high starts true (place + 1)
kept_more change r s u tasks high starts has_changed place blocked t held not h shrinks so_far = record {
  shrinks = shrinks_twice r s u so_far.shrinks shrinks;
  free = kept_free change r s u tasks high starts place blocked t held h shrinks so_far.free;
  falls = λ e. falls_more change r s u tasks high starts has_changed place blocked t held not h shrinks so_far;
  same = λ e. absurd (cc (e));
  roomy = λ e. absurd (cc (e));
}

-- ---- tasks of three lists

pub starts_of : (ds : List (List (ℤ × ℤ))) (ss dd us : List Term) → AreStarts ds (open_tasks ds ss dd us) ss
starts_of ds ss dd us = λ i task at.
    let t = terms_at ds ss dd us i task at in
    (t.start, t.at_start, ap (λ (o : OpenTask). o.earliest) t.is, ap (λ (o : OpenTask). o.latest) t.is)

pub shared_free : (ds : List (List (ℤ × ℤ))) (ss dd us : List Term) (b : Term) (a : List ℤ) → IsSetting ds ss dd us b → Within ds a → TasksShare ss dd us b a
    → AreFree (open_tasks ds ss dd us) (greatest (term_set ds b)) ss a
shared_free ds ss dd us b a set within h = λ i task t at at_start blocked. (start_of ds ss dd us b t i task a set at at_start within h).free blocked

-- what stays of free assignments stays of those that make the constraint true
pub correct_of : (ds es : List (List (ℤ × ℤ))) (ss dd us : List Term) (b : Term) (tasks : List OpenTask) (high : ℤ) → IsSetting ds ss dd us b → tasks ≡ open_tasks ds ss dd us → high ≡ greatest (term_set ds b)
    → ((a : List ℤ) → AreFree tasks high ss a → Within ds a → Within es a) → IsCorrectOf (TasksShare ss dd us b) ds es
correct_of ds es ss dd us b tasks high set is top free = λ a h within. free a (rw (is, top) (shared_free ds ss dd us b a set within h)) within

pub fails_of : (ds : List (List (ℤ × ℤ))) (ss dd us : List Term) (b : Term) (tasks : List OpenTask) (high : ℤ) → IsSetting ds ss dd us b → tasks ≡ open_tasks ds ss dd us → high ≡ greatest (term_set ds b)
    → ((a : List ℤ) → Within ds a → AreFree tasks high ss a → ⊥) → (a : List ℤ) → Within ds a → TasksShare ss dd us b a → ⊥
fails_of ds ss dd us b tasks high set is top none = λ a within h. none a within (rw (is, top) (shared_free ds ss dd us b a set within h))

passed_of : (tasks all : List OpenTask) (high most time : ℤ) → tasks ≡ all → high ≡ most → high <ℤ parts_at time tasks → most <ℤ parts_at time all
passed_of tasks all high most time is top passed = rw (is, top) at passed

-- the compulsory parts pass the bound
pub overloaded : (ds : List (List (ℤ × ℤ))) (ss dd us : List Term) (b : Term) (tasks : List OpenTask) (high : ℤ) → IsSetting ds ss dd us b → tasks ≡ open_tasks ds ss dd us → high ≡ greatest (term_set ds b)
    → (AllByRecursion (λ (load : ℤ). load ≤ℤ high) (profile_of tasks) → ⊥) → (a : List ℤ) → Within ds a → TasksShare ss dd us b a → ⊥
overloaded ds ss dd us b tasks high set is top not = λ a within h.
    let found = overload_found tasks high not in
    never_overloaded ds ss dd us b found.0 a set (passed_of tasks (open_tasks ds ss dd us) high (greatest (term_set ds b)) found.0 is top found.1) within h

pub line_of : (ds : List (List (ℤ × ℤ))) (ss dd us : List Term) (b : Term) (tasks : List OpenTask) (low high : ℤ) → tasks ≡ open_tasks ds ss dd us → low ≡ least (term_set ds b) → high ≡ greatest (term_set ds b)
    → pos 0 ≤ℤ low → low ≤ℤ high → AllByRecursion IsSound tasks → AllByRecursion (λ (load : ℤ). load ≤ℤ high) (profile_of tasks) → HaveRoom tasks high (length tasks) → TasksRest ss dd us b ds
line_of ds ss dd us b tasks low high is bottom top positive ends sound within room =
    rw (is, bottom, top) at (rest_found tasks low high positive ends sound within (λ place task at. room place task (slice_get_within tasks place task at) at))
