-- The tasks of an assignment beside what is known of them: where they share the resource they use no more than the bound at any
-- time, and no task is blocked at its start.
use Rattle.std.proofs.Common.{◌≡◌, ℕ, zero, suc, List, [], ◌∷◌, refl, subst, arith, length, inl, inr}
use Rattle.std.specs.Prelude.{ℤ, pos, ◌+ℤ◌, ◌≤ℤ◌, ◌<ℤ◌, slice_get, Some}
use Rattle.std.specs.List.{AllByRecursion}
use Rattle.std.proofs.lemmas.Int.{ints}
use Rattle.fz_sets.proofs.Lists.{some_is, all_at}
use Rattle.fz_dom.specs.Shape.{least, greatest}
use Rattle.fz_dom.proofs.Ranges.{least_below, upper_bound}
use Rattle.fz_spec.specs.declared.term.Term.{Term}
use Rattle.fz_spec.specs.Constraints.{term_value, term_values}
use Rattle.fz_spec.specs.Truth.{Task, tasks_of, usage_at, load_at, IsTask, IsCumulative}
use Rattle.fz_strength.specs.declared.open_task.OpenTask.{OpenTask}
use Rattle.fz_strength.specs.Cumulatives.{open_task, open_tasks, closed, all_closed, IsSound, part_at, parts_at, others_at, AreAll}
use Rattle.fz_strength.specs.Domains.{term_set, AreDomains, Within, IsTermOf}
use Rattle.fz_strength.proofs.Cumulatives.{load_closed}
use Rattle.fz_prop.proofs.Filled.{term_ranges}
use Rattle.fz_prop.proofs.TermChanges.{term_within}
use Rattle.fz_cumulative.specs.Cumulatives.{TasksShare}
use Rattle.fz_cumulative.specs.Tasks.{IsBlocked}
use Rattle.fz_cumulative.proofs.Parts.{cases_part, part_in, part_sound}
use Rattle.fz_cumulative.proofs.Peaks.{IsBoundedAt, bounded_always}

-- what is known of a task leaves this one
pub record MayBe (known : OpenTask) (task : Task) : Type 0 where
  pub earliest : known.earliest ≤ℤ task.start
  pub latest : task.start ≤ℤ known.latest
  pub duration : known.duration ≤ℤ task.duration
  pub usage : known.usage ≤ℤ task.usage

abbrev pub AllMayBe : List OpenTask → List Task → Type 0
AllMayBe [] [] = Unit {0}
AllMayBe [] (task ∷ tasks) = ⊥
AllMayBe (known ∷ all) [] = ⊥
AllMayBe (known ∷ all) (task ∷ tasks) = MayBe known task × AllMayBe all tasks

-- ---- it uses at least what it is sure to use

pub usage_here : (task : Task) (time : ℤ) → task.start ≤ℤ time → time <ℤ (task.start +ℤ task.duration) → usage_at time task ≡ task.usage
usage_here task time begun lasting = part_in (closed task) time (record { begun = begun; lasting = lasting })

pub usage_sound : (task : Task) (time : ℤ) → IsTask task → pos 0 ≤ℤ usage_at time task
usage_sound task time is = part_sound (closed task) time is

part_used : (known : OpenTask) (task : Task) (time : ℤ) → MayBe known task → IsTask task → part_at time known ≤ℤ usage_at time task
part_used known task time may is = elim (cases_part known time) [
  | inl h ↦
      let begun = h.begun in
      let lasting = h.lasting in
      let earliest = may.earliest in
      let latest = may.latest in
      let duration = may.duration in
      rw (part_in known time h, usage_here task time (omega (arith, ints, begun, latest)) (omega (arith, ints, lasting, earliest, duration))) may.usage
  | inr h ↦ rw h.1 (usage_sound task time is)
]

parts_used : (all : List OpenTask) (tasks : List Task) (time : ℤ) → AllMayBe all tasks → AllByRecursion IsTask tasks → parts_at time all ≤ℤ load_at time tasks
parts_used [] [] time may is = omega (arith, ints)
parts_used [] (task ∷ tasks) time may is = absurd may
parts_used (known ∷ all) [] time may is = absurd may
parts_used (known ∷ all) (task ∷ tasks) time may is =
    let a = part_used known task time may.0 is.0 in let b = parts_used all tasks time may.1 is.1 in omega (arith, ints, a, b)

others_used : (all : List OpenTask) (tasks : List Task) (time : ℤ) (place : ℕ) (task : Task) → AllMayBe all tasks → AllByRecursion IsTask tasks → slice_get tasks place ≡ Some task
    → (others_at time place all +ℤ usage_at time task) ≤ℤ load_at time tasks
others_used [] [] time place task may is at = absurd (cc (at))
others_used [] (first ∷ tasks) time place task may is at = absurd may
others_used (known ∷ all) [] time place task may is at = absurd may
others_used (known ∷ all) (first ∷ tasks) time zero task may is at =
    let P : Task → Type 0 = λ (t : Task). (parts_at time all +ℤ usage_at time t) ≤ℤ (usage_at time first +ℤ load_at time tasks) in
    let b = parts_used all tasks time may.1 is.1 in subst P (some_is first task at) (omega (arith, ints, b))
others_used (known ∷ all) (first ∷ tasks) time (suc place) task may is at =
    let a = part_used known first time may.0 is.0 in let b = others_used all tasks time place task may.1 is.1 at in omega (arith, ints, a, b)

-- ---- the bound holds at all times

sound_tasks : (tasks : List Task) → AllByRecursion IsTask tasks → AllByRecursion IsSound (all_closed tasks)
sound_tasks [] h = tt
sound_tasks (task ∷ tasks) h = (h.0, sound_tasks tasks h.1)

bounded_tasks : (whole tasks : List Task) (bound : ℤ) → AllByRecursion (λ (task : Task). pos 0 <ℤ task.duration → load_at task.start whole ≤ℤ bound) tasks
    → AllByRecursion (IsBoundedAt (all_closed whole) bound) (all_closed tasks)
bounded_tasks whole [] bound h = tt
bounded_tasks whole (task ∷ tasks) bound h = (
  (λ lasts. rw (load_closed task.start whole) (h.0 (omega (arith, ints, lasts)))),
  bounded_tasks whole tasks bound h.1,
)

pub load_bounded : (tasks : List Task) (bound : ℤ) → IsCumulative tasks bound → (time : ℤ) → load_at time tasks ≤ℤ bound
load_bounded tasks bound h time =
    let all = bounded_always (all_closed tasks) bound (sound_tasks tasks h.1) h.0 (bounded_tasks tasks tasks bound h.2) time in
    rw (load_closed time tasks) at all

pub never_passed : (all : List OpenTask) (tasks : List Task) (bound high time : ℤ) → AllMayBe all tasks → IsCumulative tasks bound → bound ≤ℤ high → high <ℤ parts_at time all → ⊥
never_passed all tasks bound high time may h below passed =
    let a = parts_used all tasks time may h.1 in let b = load_bounded tasks bound h time in omega (arith, ints, a, b, below, passed)

pub never_blocked : (all : List OpenTask) (tasks : List Task) (bound high : ℤ) (place : ℕ) (known : OpenTask) (task : Task) → AllMayBe all tasks → MayBe known task → IsCumulative tasks bound
    → bound ≤ℤ high → slice_get tasks place ≡ Some task → IsBlocked all high place known task.start → ⊥
never_blocked all tasks bound high place known task may is h below at blocked =
    let time = blocked.0 in
    let begun = blocked.1.begun in
    let lasting = blocked.1.lasting in
    let passed = blocked.1.passed in
    let duration = is.duration in
    let usage = is.usage in
    let a : (others_at time place all +ℤ task.usage) ≤ℤ load_at time tasks =
    rw (usage_here task time begun (omega (arith, ints, lasting, duration))) at (others_used all tasks time place task may h.1 at) in
    let b = load_bounded tasks bound h time in
    omega (arith, ints, a, b, below, passed, usage)

-- ---- the tasks of an assignment within the domains

term_from : (ds : List (List (ℤ × ℤ))) (a : List ℤ) (t : Term) → IsTermOf (length ds) t → AreDomains ds → Within ds a → least (term_set ds t) ≤ℤ term_value a t
term_from ds a t is domains within = least_below (term_set ds t) (term_value a t) (term_ranges ds t is domains).ranges (term_within ds a t is within)

pub term_to : (ds : List (List (ℤ × ℤ))) (a : List ℤ) (t : Term) → IsTermOf (length ds) t → AreDomains ds → Within ds a → term_value a t ≤ℤ greatest (term_set ds t)
term_to ds a t is domains within = upper_bound (term_set ds t) (term_value a t) (term_ranges ds t is domains).ranges (term_within ds a t is within)

pub all_may_be : (ds : List (List (ℤ × ℤ))) (a : List ℤ) (ss dd us : List Term) → AllByRecursion (IsTermOf (length ds)) ss → AllByRecursion (IsTermOf (length ds)) dd
    → AllByRecursion (IsTermOf (length ds)) us → AreDomains ds → Within ds a → AllMayBe (open_tasks ds ss dd us) (tasks_of (term_values a ss) (term_values a dd) (term_values a us))
all_may_be ds a [] dd us of_s of_d of_u domains within = tt
all_may_be ds a (s ∷ ss) [] us of_s of_d of_u domains within = tt
all_may_be ds a (s ∷ ss) (d ∷ dd) [] of_s of_d of_u domains within = tt
all_may_be ds a (s ∷ ss) (d ∷ dd) (u ∷ us) of_s of_d of_u domains within = (
  record {
    earliest = term_from ds a s of_s.0 domains within;
    latest = term_to ds a s of_s.0 domains within;
    duration = term_from ds a d of_d.0 domains within;
    usage = term_from ds a u of_u.0 domains within;
  },
  all_may_be ds a ss dd us of_s.1 of_d.1 of_u.1 domains within,
)

-- the terms of the task at a place
pub record HasTerms (ds : List (List (ℤ × ℤ))) (ss dd us : List Term) (place : ℕ) (known : OpenTask) : Type 0 where
  pub start : Term
  pub duration : Term
  pub usage : Term
  pub at_start : slice_get ss place ≡ Some start
  pub at_duration : slice_get dd place ≡ Some duration
  pub at_usage : slice_get us place ≡ Some usage
  pub is : open_task ds start duration usage ≡ known

pub terms_at : (ds : List (List (ℤ × ℤ))) (ss dd us : List Term) (place : ℕ) (known : OpenTask) → slice_get (open_tasks ds ss dd us) place ≡ Some known → HasTerms ds ss dd us place known
terms_at ds [] dd us place known at = absurd (cc (at))
terms_at ds (s ∷ ss) [] us place known at = absurd (cc (at))
terms_at ds (s ∷ ss) (d ∷ dd) [] place known at = absurd (cc (at))
terms_at ds (s ∷ ss) (d ∷ dd) (u ∷ us) zero known at = record {
  start = s;
  duration = d;
  usage = u;
  at_start = refl;
  at_duration = refl;
  at_usage = refl;
  is = some_is (open_task ds s d u) known at;
}
terms_at ds (s ∷ ss) (d ∷ dd) (u ∷ us) (suc place) known at =
    let h = terms_at ds ss dd us place known at in
    record { start = h.start; duration = h.duration; usage = h.usage; at_start = h.at_start; at_duration = h.at_duration; at_usage = h.at_usage; is = h.is }

abbrev pub task_of : List ℤ → Term → Term → Term → Task
task_of a s d u = record { start = term_value a s; duration = term_value a d; usage = term_value a u }

pub task_at : (a : List ℤ) (ss dd us : List Term) (place : ℕ) (s d u : Term) → slice_get ss place ≡ Some s → slice_get dd place ≡ Some d → slice_get us place ≡ Some u
    → slice_get (tasks_of (term_values a ss) (term_values a dd) (term_values a us)) place ≡ Some (task_of a s d u)
task_at a [] dd us place s d u at_s at_d at_u = absurd (cc (at_s))
task_at a (x ∷ ss) [] us place s d u at_s at_d at_u = absurd (cc (at_d))
task_at a (x ∷ ss) (y ∷ dd) [] place s d u at_s at_d at_u = absurd (cc (at_u))
task_at a (x ∷ ss) (y ∷ dd) (z ∷ us) zero s d u at_s at_d at_u =
    let p = some_is x s at_s in let q = some_is y d at_d in let r = some_is z u at_u in λ i. Some (task_of a (p i) (q i) (r i))
task_at a (x ∷ ss) (y ∷ dd) (z ∷ us) (suc place) s d u at_s at_d at_u = task_at a ss dd us place s d u at_s at_d at_u

pub may_be_at : (all : List OpenTask) (tasks : List Task) (place : ℕ) (known : OpenTask) (task : Task) → AllMayBe all tasks → slice_get all place ≡ Some known → slice_get tasks place ≡ Some task
    → MayBe known task
may_be_at [] tasks place known task may at_all at = absurd (cc (at_all))
may_be_at (first ∷ all) [] place known task may at_all at = absurd may
may_be_at (first ∷ all) (other ∷ tasks) zero known task may at_all at =
    let same : first ≡ known = some_is first known at_all in
    let alike : other ≡ task = some_is other task at in
    subst (λ (o : OpenTask). MayBe o task) same (subst (λ (t : Task). MayBe first t) alike may.0)
may_be_at (first ∷ all) (other ∷ tasks) (suc place) known task may at_all at = may_be_at all tasks place known task may.1 at_all at

-- ---- what an assignment of shared tasks gives the start of a task

pub record IsSetting (ds : List (List (ℤ × ℤ))) (ss dd us : List Term) (b : Term) : Type 0 where
  pub terms : AreAll (IsTermOf (length ds)) ss dd us b
  pub domains : AreDomains ds

-- a start is known to be from the earliest to the latest, and isn't blocked
pub record IsStart (ds : List (List (ℤ × ℤ))) (ss dd us : List Term) (b : Term) (place : ℕ) (known : OpenTask) (start : ℤ) : Type 0 where
  pub earliest : known.earliest ≤ℤ start
  pub latest : start ≤ℤ known.latest
  pub free : IsBlocked (open_tasks ds ss dd us) (greatest (term_set ds b)) place known start → ⊥

pub start_of : (ds : List (List (ℤ × ℤ))) (ss dd us : List Term) (b s : Term) (place : ℕ) (known : OpenTask) (a : List ℤ) → IsSetting ds ss dd us b
    → slice_get (open_tasks ds ss dd us) place ≡ Some known → slice_get ss place ≡ Some s → Within ds a → TasksShare ss dd us b a
    → IsStart ds ss dd us b place known (term_value a s)
start_of ds ss dd us b s place known a set at at_s within h =
    let all = open_tasks ds ss dd us in
    let tasks = tasks_of (term_values a ss) (term_values a dd) (term_values a us) in
    let t = terms_at ds ss dd us place known at in
    let task = task_of a s t.duration t.usage in
    let at_task = task_at a ss dd us place s t.duration t.usage at_s t.at_duration t.at_usage in
    let may = all_may_be ds a ss dd us set.terms.starts set.terms.durations set.terms.usages set.domains within in
    let is = may_be_at all tasks place known task may at at_task in
    record {
      earliest = is.earliest;
      latest = is.latest;
      free = never_blocked all tasks (term_value a b) (greatest (term_set ds b)) place known task may is h (term_to ds a b set.terms.bound set.domains within) at_task;
    }

pub never_overloaded : (ds : List (List (ℤ × ℤ))) (ss dd us : List Term) (b : Term) (time : ℤ) (a : List ℤ) → IsSetting ds ss dd us b
    → greatest (term_set ds b) <ℤ parts_at time (open_tasks ds ss dd us) → Within ds a → TasksShare ss dd us b a → ⊥
never_overloaded ds ss dd us b time a set passed within h =
    never_passed (open_tasks ds ss dd us) (tasks_of (term_values a ss) (term_values a dd) (term_values a us)) (term_value a b) (greatest (term_set ds b)) time
    (all_may_be ds a ss dd us set.terms.starts set.terms.durations set.terms.usages set.domains within) h (term_to ds a b set.terms.bound set.domains within) passed

-- ---- what it gives durations and usages

pub task_shared : (ds : List (List (ℤ × ℤ))) (ss dd us : List Term) (b : Term) (place : ℕ) (known : OpenTask) (a : List ℤ) (t : HasTerms ds ss dd us place known) → TasksShare ss dd us b a
    → IsTask (task_of a t.start t.duration t.usage)
task_shared ds ss dd us b place known a t h =
    all_at IsTask (tasks_of (term_values a ss) (term_values a dd) (term_values a us)) place (task_of a t.start t.duration t.usage) h.1
    (task_at a ss dd us place t.start t.duration t.usage t.at_start t.at_duration t.at_usage)
