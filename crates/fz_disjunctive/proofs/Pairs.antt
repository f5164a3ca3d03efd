-- Two tasks that can't run at the same time: one has ended when the other begins.
use Rattle.std.proofs.Common.{◌≡◌, ◌≢◌, ◌⊎◌, inl, inr, ℕ, zero, suc, List, [], ◌∷◌, refl, ap, subst, arith}
use Rattle.std.specs.Prelude.{ℤ, pos, ◌+ℤ◌, ◌≤ℤ◌, ◌<ℤ◌, slice_get, slice_index_or, Some}
use Rattle.std.specs.List.{AllByRecursion}
use Rattle.std.proofs.lemmas.Int.{ints, by_lt_z}
use Rattle.std.proofs.lemmas.Option.{get_or_from_slice_get}
use Rattle.fz_sets.proofs.Lists.{some_is}
use Rattle.fz_dom.specs.Shape.{greatest}
use Rattle.fz_spec.specs.declared.term.Term.{Term}
use Rattle.fz_spec.specs.declared.term.Term.TheVariants.{Num}
use Rattle.fz_spec.specs.Constraints.{term_value, term_values}
use Rattle.fz_spec.specs.Truth.{Task, tasks_of, usage_at, load_at, IsTask, IsCumulative}
use Rattle.fz_strength.specs.declared.open_task.OpenTask.{OpenTask}
use Rattle.fz_strength.specs.Cumulatives.{open_tasks}
use Rattle.fz_strength.specs.Domains.{term_set, Within}
use Rattle.fz_cumulative.specs.Cumulatives.{TasksShare}
use Rattle.fz_cumulative.proofs.Sharing.{MayBe, usage_here, usage_sound, all_may_be, may_be_at, terms_at, task_at, load_bounded, term_to, IsSetting}
use Rattle.fz_disjunctive.specs.declared.job.Job.{Job}
use Rattle.fz_disjunctive.specs.declared.job.Direction.{Direction}
use Rattle.fz_disjunctive.specs.declared.job.Direction.TheVariants.{Forward, Backward}
use Rattle.fz_disjunctive.specs.Jobs.{IsJobOf, AreJobs, starts_by}
use Rattle.fz_disjunctive.specs.Outcomes.{IsScheduling}
use Rattle.fz_disjunctive.specs.Schedules.{IsStarted, HasEnded, AreApart}
use Rattle.fz_disjunctive.proofs.Places.{others_elsewhere, once_behind}

-- ---- two tasks of those that share a resource

load_sound : (tasks : List Task) (time : ℤ) → AllByRecursion IsTask tasks → pos 0 ≤ℤ load_at time tasks
load_sound [] time are = omega (arith, ints)
load_sound (task ∷ tasks) time are = let a = usage_sound task time are.0 in let b = load_sound tasks time are.1 in omega (arith, ints, a, b)

one_used : (tasks : List Task) (time : ℤ) (i : ℕ) (task : Task) → AllByRecursion IsTask tasks → slice_get tasks i ≡ Some task → usage_at time task ≤ℤ load_at time tasks
one_used [] time i task are at = absurd (cc (at))
one_used (first ∷ tasks) time zero task are at =
    let b = load_sound tasks time are.1 in
    subst (λ (t : Task). usage_at time t ≤ℤ (usage_at time first +ℤ load_at time tasks)) (some_is first task at) (omega (arith, ints, b))
one_used (first ∷ tasks) time (suc i) task are at =
    let a = usage_sound first time are.0 in let b = one_used tasks time i task are.1 at in omega (arith, ints, a, b)

two_used : (tasks : List Task) (time : ℤ) (i j : ℕ) (task other : Task) → AllByRecursion IsTask tasks → i ≢ j → slice_get tasks i ≡ Some task → slice_get tasks j ≡ Some other
    → (usage_at time task +ℤ usage_at time other) ≤ℤ load_at time tasks
two_used [] time i j task other are ne at at_other = absurd (cc (at))
two_used (first ∷ tasks) time zero zero task other are ne at at_other = absurd (ne refl)
two_used (first ∷ tasks) time zero (suc j) task other are ne at at_other =
    let b = one_used tasks time j other are.1 at_other in
    subst (λ (t : Task). (usage_at time t +ℤ usage_at time other) ≤ℤ (usage_at time first +ℤ load_at time tasks)) (some_is first task at) (omega (arith, ints, b))
two_used (first ∷ tasks) time (suc i) zero task other are ne at at_other =
    let b = one_used tasks time i task are.1 at in
    subst (λ (t : Task). (usage_at time task +ℤ usage_at time t) ≤ℤ (usage_at time first +ℤ load_at time tasks)) (some_is first other at_other) (omega (arith, ints, b))
two_used (first ∷ tasks) time (suc i) (suc j) task other are ne at at_other =
    let a = usage_sound first time are.0 in
    let b = two_used tasks time i j task other are.1 (λ e. ne (ap suc e)) at at_other in
    omega (arith, ints, a, b)

-- two tasks that last and together pass the bound don't overlap
apart : (tasks : List Task) (bound : ℤ) (i j : ℕ) (task other : Task) → IsCumulative tasks bound → i ≢ j → slice_get tasks i ≡ Some task → slice_get tasks j ≡ Some other
    → pos 0 <ℤ task.duration → pos 0 <ℤ other.duration → bound <ℤ (task.usage +ℤ other.usage)
    → ((task.start +ℤ task.duration) ≤ℤ other.start) ⊎ ((other.start +ℤ other.duration) ≤ℤ task.start)
apart tasks bound i j task other h ne at at_other lasts lasts_other together =
    by_lt_z task.start other.start
    (λ before. by_lt_z other.start (task.start +ℤ task.duration)
    (λ meets.
    let time = other.start in
    let a = two_used tasks time i j task other h.1 ne at at_other in
    let b = load_bounded tasks bound h time in
    let e = usage_here task time (omega (arith, ints, before)) meets in
    let f = usage_here other time (omega (arith, ints)) (omega (arith, ints, lasts_other)) in
    absurd (omega (arith, ints, a, b, e, f, together)))
    (λ ends. inl ends))
    (λ since. by_lt_z task.start (other.start +ℤ other.duration)
    (λ meets.
    let time = task.start in
    let a = two_used tasks time i j task other h.1 ne at at_other in
    let b = load_bounded tasks bound h time in
    let e = usage_here task time (omega (arith, ints)) (omega (arith, ints, lasts)) in
    let f = usage_here other time since meets in
    absurd (omega (arith, ints, a, b, e, f, together)))
    (λ ends. inr ends))

-- ---- jobs by an assignment

-- the task that an assignment makes of a job
record IsRun (ss dd us : List Term) (a : List ℤ) (job : Job) (known : OpenTask) : Type 0 where
  task : Task
  at : slice_get (tasks_of (term_values a ss) (term_values a dd) (term_values a us)) job.place ≡ Some task
  may : MayBe known task
  start : term_value a (slice_index_or ss job.place (Num (pos 0))) ≡ task.start

run_of : (direction : Direction) (ds : List (List (ℤ × ℤ))) (ss dd us : List Term) (b : Term) (high : ℤ) (job : Job) (a : List ℤ) → IsSetting ds ss dd us b
    → (is : IsJobOf direction (open_tasks ds ss dd us) high job) → Within ds a → IsRun ss dd us a job is.task
run_of direction ds ss dd us b high job a set is within =
    let all = open_tasks ds ss dd us in
    let t = terms_at ds ss dd us job.place is.task is.at in
    let task : Task = record { start = term_value a t.start; duration = term_value a t.duration; usage = term_value a t.usage } in
    let at = task_at a ss dd us job.place t.start t.duration t.usage t.at_start t.at_duration t.at_usage in
    record {
      task = task;
      at = at;
      may = may_be_at all (tasks_of (term_values a ss) (term_values a dd) (term_values a us)) job.place is.task task
          (all_may_be ds a ss dd us set.terms.starts set.terms.durations set.terms.usages set.domains within) is.at at;
      start = ap (term_value a) (get_or_from_slice_get ss job.place t.start (Num (pos 0)) t.at_start);
    }

started : (direction : Direction) (ss dd us : List Term) (tasks : List OpenTask) (high : ℤ) (job : Job) (a : List ℤ) (is : IsJobOf direction tasks high job) → IsRun ss dd us a job is.task
    → IsStarted (starts_by direction ss a) job
started Forward ss dd us tasks high job a is run =
    let lasts = is.wide.lasts in
    let from = run.may.earliest in
    let to = run.may.latest in
    let start = run.start in
    let e = ap (λ (x : Job). x.earliest) is.is in
    let l = ap (λ (x : Job). x.latest) is.is in
    let d = ap (λ (x : Job). x.duration) is.is in
    record {
      lasts = omega (arith, ints, lasts, d);
      earliest = omega (arith, ints, from, start, e);
      latest = omega (arith, ints, to, start, l);
    }
started Backward ss dd us tasks high job a is run =
    let lasts = is.wide.lasts in
    let from = run.may.earliest in
    let to = run.may.latest in
    let start = run.start in
    let e = ap (λ (x : Job). x.earliest) is.is in
    let l = ap (λ (x : Job). x.latest) is.is in
    let d = ap (λ (x : Job). x.duration) is.is in
    record {
      lasts = omega (arith, ints, lasts, d);
      earliest = omega (arith, ints, to, start, e, d);
      latest = omega (arith, ints, from, start, l, d);
    }

-- which of two tasks comes first, as a direction has it
in_order : (direction : Direction) (ss : List Term) (a : List ℤ) (one other : Job) (s d t e : ℤ) → term_value a (slice_index_or ss one.place (Num (pos 0))) ≡ s
    → term_value a (slice_index_or ss other.place (Num (pos 0))) ≡ t → one.duration ≤ℤ d → other.duration ≤ℤ e → ((s +ℤ d) ≤ℤ t) ⊎ ((t +ℤ e) ≤ℤ s)
    → HasEnded (starts_by direction ss a) (starts_by direction ss a other) one ⊎ HasEnded (starts_by direction ss a) (starts_by direction ss a one) other
in_order Forward ss a one other s d t e at at_other long long_other (inl first) = inl (omega (arith, ints, at, at_other, long, first))
in_order Forward ss a one other s d t e at at_other long long_other (inr second) = inr (omega (arith, ints, at, at_other, long_other, second))
in_order Backward ss a one other s d t e at at_other long long_other (inl first) = inr (omega (arith, ints, at, at_other, long, first))
in_order Backward ss a one other s d t e at at_other long long_other (inr second) = inl (omega (arith, ints, at, at_other, long_other, second))

duration_of : (direction : Direction) (tasks : List OpenTask) (high : ℤ) (job : Job) (is : IsJobOf direction tasks high job) → job.duration ≡ is.task.duration
duration_of Forward tasks high job is = ap (λ (x : Job). x.duration) is.is
duration_of Backward tasks high job is = ap (λ (x : Job). x.duration) is.is

jobs_apart : (direction : Direction) (ds : List (List (ℤ × ℤ))) (ss dd us : List Term) (b : Term) (one other : Job) (a : List ℤ) → IsSetting ds ss dd us b
    → IsJobOf direction (open_tasks ds ss dd us) (greatest (term_set ds b)) one → IsJobOf direction (open_tasks ds ss dd us) (greatest (term_set ds b)) other
    → Within ds a → TasksShare ss dd us b a → one.place ≢ other.place → AreApart (starts_by direction ss a) one other
jobs_apart direction ds ss dd us b one other a set is is_other within h ne =
    let all = open_tasks ds ss dd us in
    let high = greatest (term_set ds b) in
    let run = run_of direction ds ss dd us b high one a set is within in
    let run_other = run_of direction ds ss dd us b high other a set is_other within in
    let top = term_to ds a b set.terms.bound set.domains within in
    let lasts = is.wide.lasts in
    let lasts_other = is_other.wide.lasts in
    let wide = is.wide.wide in
    let wide_other = is_other.wide.wide in
    let long = run.may.duration in
    let long_other = run_other.may.duration in
    let much = run.may.usage in
    let much_other = run_other.may.usage in
    let d = duration_of direction all high one is in
    let e = duration_of direction all high other is_other in
    record {
      places = ne;
      order = in_order direction ss a one other run.task.start run.task.duration run_other.task.start run_other.task.duration run.start run_other.start
          (omega (arith, ints, long, d)) (omega (arith, ints, long_other, e))
          (apart (tasks_of (term_values a ss) (term_values a dd) (term_values a us)) (term_value a b) one.place other.place run.task run_other.task h ne run.at run_other.at
          (omega (arith, ints, lasts, long)) (omega (arith, ints, lasts_other, long_other)) (omega (arith, ints, wide, wide_other, much, much_other, top)));
    }

all_apart : (direction : Direction) (ds : List (List (ℤ × ℤ))) (ss dd us : List Term) (b : Term) (job : Job) (jobs : List Job) (a : List ℤ) → IsSetting ds ss dd us b
    → IsJobOf direction (open_tasks ds ss dd us) (greatest (term_set ds b)) job → AllByRecursion (IsJobOf direction (open_tasks ds ss dd us) (greatest (term_set ds b))) jobs
    → AllByRecursion (λ (other : Job). job.place ≢ other.place) jobs → Within ds a → TasksShare ss dd us b a → AllByRecursion (AreApart (starts_by direction ss a) job) jobs
all_apart direction ds ss dd us b job [] a set is each elsewhere within h = tt
all_apart direction ds ss dd us b job (other ∷ jobs) a set is each elsewhere within h = (
  jobs_apart direction ds ss dd us b job other a set is each.0 within h elsewhere.0,
  all_apart direction ds ss dd us b job jobs a set is each.1 elsewhere.1 within h,
)

-- The jobs that tasks are have a schedule by each assignment of shared tasks.
pub scheduled : (direction : Direction) (ds : List (List (ℤ × ℤ))) (ss dd us : List Term) (b : Term) (jobs : List Job) (a : List ℤ) → IsSetting ds ss dd us b
    → AreJobs direction (open_tasks ds ss dd us) (greatest (term_set ds b)) jobs → Within ds a → TasksShare ss dd us b a → IsScheduling direction jobs ss a
scheduled direction ds ss dd us b [] a set are within h = tt
scheduled direction ds ss dd us b (job ∷ jobs) a set are within h =
    let high = greatest (term_set ds b) in
    let is = are.each.0 in (
      started direction ss dd us (open_tasks ds ss dd us) high job a is (run_of direction ds ss dd us b high job a set is within),
      all_apart direction ds ss dd us b job jobs a set is are.each.1 (others_elsewhere job jobs (are.once job.place)) within h,
      scheduled direction ds ss dd us b jobs a set (record { each = are.each.1; once = once_behind job jobs are.once }) within h,
    )
