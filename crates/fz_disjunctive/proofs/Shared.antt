-- What the order of jobs tells of tasks that share a resource.
use Rattle.std.proofs.Common.{◌≡◌, ◌<◌, List, [], ◌∷◌, length}
use Rattle.std.specs.Prelude.{ℤ}
use Rattle.std.specs.List.{AllByRecursion}
use Rattle.std.proofs.lemmas.Option.{slice_get_within}
use Rattle.fz_dom.specs.Shape.{greatest}
use Rattle.fz_dom.specs.declared.change.Change.{Change}
use Rattle.fz_dom.specs.declared.change.Change.TheVariants.{Same, Changed, Wiped}
use Rattle.fz_spec.specs.declared.term.Term.{Term}
use Rattle.fz_strength.specs.declared.open_task.OpenTask.{OpenTask}
use Rattle.fz_strength.specs.Cumulatives.{open_tasks}
use Rattle.fz_strength.specs.Domains.{term_set, AreDomains, IsTermOf}
use Rattle.fz_strength.proofs.Cumulatives.{all_of_tasks}
use Rattle.fz_prop.specs.Answers.{IsCorrectOf}
use Rattle.fz_prop.specs.Stores.{Stored}
use Rattle.fz_cumulative.specs.Cumulatives.{AreTermsOf, TasksShare}
use Rattle.fz_cumulative.proofs.Sharing.{terms_at, IsSetting}
use Rattle.fz_disjunctive.specs.declared.job.Job.{Job}
use Rattle.fz_disjunctive.specs.declared.job.Direction.{Direction}
use Rattle.fz_disjunctive.specs.Jobs.{IsJobOf, AreJobs, starts_by}
use Rattle.fz_prop.specs.Outcomes.{IsOutcome}
use Rattle.fz_disjunctive.specs.Outcomes.{IsScheduling}
use Rattle.fz_disjunctive.specs.Schedules.{HasNoSchedule}
use Rattle.fz_disjunctive.proofs.Pairs.{scheduled}

-- the jobs are those of the tasks, and the bound is the greatest that is left
pub record IsShop (direction : Direction) (ds : List (List (ℤ × ℤ))) (ss dd us : List Term) (b : Term) (jobs : List Job) : Type 0 where
  pub set : IsSetting ds ss dd us b
  pub jobs_are : AreJobs direction (open_tasks ds ss dd us) (greatest (term_set ds b)) jobs

pub shop_of : (direction : Direction) (ds : List (List (ℤ × ℤ))) (ss dd us : List Term) (b : Term) (tasks : List OpenTask) (high : ℤ) (jobs : List Job) → AreTermsOf (length ds) ss dd us b → AreDomains ds
    → tasks ≡ open_tasks ds ss dd us → high ≡ greatest (term_set ds b) → AreJobs direction tasks high jobs → IsShop direction ds ss dd us b jobs
shop_of direction ds ss dd us b tasks high jobs terms domains is top are = record {
  set = record { terms = all_of_tasks (IsTermOf (length ds)) ss dd us b terms; domains = domains };
  jobs_are = rw (← is, ← top) are;
}

places_of : (direction : Direction) (ds : List (List (ℤ × ℤ))) (ss dd us : List Term) (high : ℤ) (jobs : List Job) → AllByRecursion (IsJobOf direction (open_tasks ds ss dd us) high) jobs
    → AllByRecursion (λ (job : Job). job.place < length ss) jobs
places_of direction ds ss dd us high [] each = tt
places_of direction ds ss dd us high (job ∷ jobs) each =
    let t = terms_at ds ss dd us job.place each.0.task each.0.at in
    (slice_get_within ss job.place t.start t.at_start, places_of direction ds ss dd us high jobs each.1)

pub shop_places : (direction : Direction) (ds : List (List (ℤ × ℤ))) (ss dd us : List Term) (b : Term) (jobs : List Job) → IsShop direction ds ss dd us b jobs
    → AllByRecursion (λ (job : Job). job.place < length ss) jobs
shop_places direction ds ss dd us b jobs h = places_of direction ds ss dd us (greatest (term_set ds b)) jobs h.jobs_are.each

pub shop_correct : (direction : Direction) (ds es : List (List (ℤ × ℤ))) (ss dd us : List Term) (b : Term) (jobs : List Job) → IsShop direction ds ss dd us b jobs
    → IsCorrectOf (IsScheduling direction jobs ss) ds es → IsCorrectOf (TasksShare ss dd us b) ds es
shop_correct direction ds es ss dd us b jobs h correct = λ a holds within. correct a (scheduled direction ds ss dd us b jobs a h.set h.jobs_are within holds) within

pub shop_outcome : (change : Change) (direction : Direction) (r s : Stored) (ss dd us : List Term) (b : Term) (jobs : List Job) → IsShop direction r.doms ss dd us b jobs
    → IsOutcome change (IsScheduling direction jobs ss) r s → IsOutcome change (TasksShare ss dd us b) r s
shop_outcome Same direction r s ss dd us b jobs h outcome = outcome
shop_outcome Changed direction r s ss dd us b jobs h outcome = outcome
shop_outcome Wiped direction r s ss dd us b jobs h outcome = λ a within holds. outcome a within (scheduled direction r.doms ss dd us b jobs a h.set h.jobs_are within holds)

pub shop_fails : (direction : Direction) (r s : Stored) (ss dd us : List Term) (b : Term) (jobs : List Job) → IsShop direction r.doms ss dd us b jobs
    → HasNoSchedule jobs → IsOutcome Wiped (TasksShare ss dd us b) r s
shop_fails direction r s ss dd us b jobs h none = λ a within holds. none (starts_by direction ss a) (scheduled direction r.doms ss dd us b jobs a h.set h.jobs_are within holds)
