-- Jobs of which no two run at the same time, and what every schedule of them keeps (Vilím: "Global constraints in scheduling").
use Rattle.std.specs.Prelude.{◌≡◌, ◌≢◌, ◌⊎◌, ℕ, ℤ, pos, ◌+ℤ◌, ◌≤ℤ◌, ◌<ℤ◌, int_le, int_lt, nat_eq, not, ◌&&◌, ◌||◌, Bool, List, [], ◌∷◌, slice_get, Some}
use Rattle.std.specs.List.{AllByRecursion, filter}
use Rattle.fz_disjunctive.specs.declared.job.Job.{Job}
use Rattle.fz_disjunctive.specs.declared.job.Choice.{Choice}
use Rattle.fz_disjunctive.specs.declared.job.Choice.TheVariants.{EndingBy, EndingByOrAt, Before, Beside}

-- a job lasts, and begins from its earliest start up to its latest
pub record IsStarted (start : Job → ℤ) (job : Job) : Type 0 where
  pub lasts : pos 0 <ℤ job.duration
  pub earliest : job.earliest ≤ℤ start job
  pub latest : start job ≤ℤ job.latest

-- it has ended by a time
abbrev pub HasEnded : (Job → ℤ) → ℤ → Job → Type 0
HasEnded start time job = (start job +ℤ job.duration) ≤ℤ time

-- two jobs have places of their own, and one has ended when the other begins
pub record AreApart (start : Job → ℤ) (one other : Job) : Type 0 where
  pub places : one.place ≢ other.place
  pub order : HasEnded start (start other) one ⊎ HasEnded start (start one) other

-- each job has a start of those that are left, and no two run at the same time
abbrev pub IsSchedule : (Job → ℤ) → List Job → Type 0
IsSchedule start [] = Unit {0}
IsSchedule start (job ∷ jobs) = IsStarted start job × AllByRecursion (AreApart start job) jobs × IsSchedule start jobs

-- whether a job is among those that are chosen
abbrev pub takes : Choice → Job → Bool
takes (EndingBy time) job = int_le (job.latest +ℤ job.duration) time
takes (EndingByOrAt time place) job = nat_eq job.place place || int_le (job.latest +ℤ job.duration) time
takes (Before other) job = not (nat_eq job.place other.place) && int_lt job.latest (other.earliest +ℤ other.duration)
takes (Beside other time) job = not (nat_eq job.place other.place) && (int_le (job.latest +ℤ job.duration) time && int_lt other.earliest (job.earliest +ℤ job.duration))

abbrev pub chosen : Choice → List Job → List Job
chosen choice jobs = filter (takes choice) jobs

-- how long jobs last together
abbrev pub needed : List Job → ℤ
needed [] = pos 0
needed (job ∷ jobs) = job.duration +ℤ needed jobs

-- What jobs need, and a time before which none of them can have ended.
pub record IsLoad (jobs : List Job) (total first_end : ℤ) : Type 0 where
  pub total_is : total ≡ needed jobs
  pub ends : AllByRecursion (λ (job : Job). first_end ≤ℤ (job.earliest +ℤ job.duration)) jobs

-- Where all of the jobs that are chosen have ended by a time, from a floor on, it isn't before this one.
abbrev pub IsSoonestEnd : List Job → Choice → ℤ → ℤ → Type 0
IsSoonestEnd jobs choice floor end =
    (start : Job → ℤ) (time : ℤ) → IsSchedule start jobs → floor ≤ℤ time → AllByRecursion (HasEnded start time) (chosen choice jobs) → end ≤ℤ time

-- in every schedule those that are chosen have ended when the job begins
abbrev pub IsBehind : List Job → Choice → Job → Type 0
IsBehind jobs choice job = (start : Job → ℤ) → IsSchedule start jobs → AllByRecursion (HasEnded start (start job)) (chosen choice jobs)

-- no schedule starts the job sooner
abbrev pub IsEarliest : List Job → ℤ → Job → Type 0
IsEarliest jobs time job = (start : Job → ℤ) → IsSchedule start jobs → time ≤ℤ start job

abbrev pub HasNoSchedule : List Job → Type 0
HasNoSchedule jobs = (start : Job → ℤ) → IsSchedule start jobs → ⊥

-- the job at an index has a property
abbrev pub IsOfJob : List Job → ℕ → (Job → Type 0) → Type 0
IsOfJob jobs index P = (job : Job) → slice_get jobs index ≡ Some job → P job
