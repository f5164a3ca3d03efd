-- Jobs that are chosen, one after the other.
use Rattle.std.proofs.Common.{◌≡◌, ℕ, zero, suc, ◌+◌, ◌<◌, Bool, true, false, List, [], ◌∷◌, ◌++◌, refl, ◌∙◌, arith, length, take, get_or, append-nil}
use Rattle.std.specs.Prelude.{ℤ, pos, ◌+ℤ◌, ◌≤ℤ◌, cond}
use Rattle.std.specs.Int.{int_max, int_min}
use Rattle.std.specs.List.{AllByRecursion, filter}
use Rattle.std.proofs.lemmas.Int.{ints, clamps}
use Rattle.std.proofs.lemmas.List.Elements.{filter_more}
use Rattle.fz_sets.proofs.Lists.{all_both}
use Rattle.fz_disjunctive.specs.declared.job.Job.{Job}
use Rattle.fz_disjunctive.specs.declared.job.Choice.{Choice}
use Rattle.fz_disjunctive.specs.Schedules.{IsStarted, HasEnded, AreApart, IsSchedule, IsSoonestEnd, takes, chosen, needed}
use Rattle.fz_disjunctive.proofs.Windows.{IsWithin, needed_more, within_bounded}

-- ---- lists

pub all_each : {X : Type 0} (P Q : X → Type 0) (xs : List X) → ((x : X) → P x → Q x) → AllByRecursion P xs → AllByRecursion Q xs
all_each P Q [] each all = tt
all_each P Q (x ∷ xs) each all = (each x all.0, all_each P Q xs each all.1)

one_kept : {X : Type 0} (b : Bool) (P : X → Type 0) (x : X) (xs : List X) → P x → AllByRecursion P xs → AllByRecursion P (cond b (x ∷ xs) xs)
one_kept true P x xs here all = (here, all)
one_kept false P x xs here all = all

all_filter : {X : Type 0} (test : X → Bool) (P : X → Type 0) (xs : List X) → AllByRecursion P xs → AllByRecursion P (filter test xs)
all_filter test P [] all = tt
all_filter test P (x ∷ xs) all = one_kept (test x) P x (filter test xs) all.0 (all_filter test P xs all.1)

one_passing : {X : Type 0} (b : Bool) (P : X → Type 0) (x : X) (xs : List X) → (b ≡ true → P x) → AllByRecursion P xs → AllByRecursion P (cond b (x ∷ xs) xs)
one_passing true P x xs here all = (here refl, all)
one_passing false P x xs here all = all

-- those that pass a test have what it tells
pub all_passing : {X : Type 0} (test : X → Bool) (P : X → Type 0) (xs : List X) → AllByRecursion (λ (x : X). test x ≡ true → P x) xs → AllByRecursion P (filter test xs)
all_passing test P [] all = tt
all_passing test P (x ∷ xs) all = one_passing (test x) P x (filter test xs) all.0 (all_passing test P xs all.1)

one_fewer : {X : Type 0} (b : Bool) (P : X → Type 0) (x : X) (xs ys : List X) → (AllByRecursion P xs → AllByRecursion P ys) → AllByRecursion P (cond b (x ∷ xs) xs)
    → AllByRecursion P (cond b (x ∷ ys) ys)
one_fewer true P x xs ys fewer all = (all.0, fewer all.1)
one_fewer false P x xs ys fewer all = fewer all

all_filter_take : {X : Type 0} (test : X → Bool) (P : X → Type 0) (xs : List X) (i : ℕ) → AllByRecursion P (filter test xs) → AllByRecursion P (filter test (take i xs))
all_filter_take test P [] zero all = tt
all_filter_take test P [] (suc i) all = tt
all_filter_take test P (x ∷ xs) zero all = tt
all_filter_take test P (x ∷ xs) (suc i) all = one_fewer (test x) P x (filter test xs) (filter test (take i xs)) (all_filter_take test P xs i) all

-- ---- schedules of some of the jobs

all_take : (P : Job → Type 0) (jobs : List Job) (i : ℕ) → AllByRecursion P jobs → AllByRecursion P (take i jobs)
all_take P [] zero all = tt
all_take P [] (suc i) all = tt
all_take P (job ∷ jobs) zero all = tt
all_take P (job ∷ jobs) (suc i) all = (all.0, all_take P jobs i all.1)

schedule_take : (start : Job → ℤ) (jobs : List Job) (i : ℕ) → IsSchedule start jobs → IsSchedule start (take i jobs)
schedule_take start [] zero h = tt
schedule_take start [] (suc i) h = tt
schedule_take start (job ∷ jobs) zero h = tt
schedule_take start (job ∷ jobs) (suc i) h = (h.0, all_take (AreApart start job) jobs i h.1, schedule_take start jobs i h.2)

one_scheduled : (b : Bool) (start : Job → ℤ) (job : Job) (jobs : List Job) → IsStarted start job → AllByRecursion (AreApart start job) jobs → IsSchedule start jobs
    → IsSchedule start (cond b (job ∷ jobs) jobs)
one_scheduled true start job jobs started apart h = (started, apart, h)
one_scheduled false start job jobs started apart h = h

pub schedule_filter : (test : Job → Bool) (start : Job → ℤ) (jobs : List Job) → IsSchedule start jobs → IsSchedule start (filter test jobs)
schedule_filter test start [] h = tt
schedule_filter test start (job ∷ jobs) h =
    one_scheduled (test job) start job (filter test jobs) h.0 (all_filter test (AreApart start job) jobs h.1) (schedule_filter test start jobs h.2)

pub all_started : (start : Job → ℤ) (jobs : List Job) → IsSchedule start jobs → AllByRecursion (IsStarted start) jobs
all_started start [] h = tt
all_started start (job ∷ jobs) h = (h.0, all_started start jobs h.2)

-- ---- one job more

pub chosen_more : (choice : Choice) (jobs : List Job) (index : ℕ) (d : Job) → index < length jobs → takes choice (get_or jobs index d) ≡ true
    → chosen choice (take (index + 1) jobs) ≡ chosen choice (take index jobs) ++ get_or jobs index d ∷ []
chosen_more choice jobs index d within taken = rw taken at (filter_more (takes choice) jobs index d within)

pub chosen_same : (choice : Choice) (jobs : List Job) (index : ℕ) (d : Job) → index < length jobs → takes choice (get_or jobs index d) ≡ false
    → chosen choice (take (index + 1) jobs) ≡ chosen choice (take index jobs)
chosen_same choice jobs index d within left = (rw left at (filter_more (takes choice) jobs index d within)) ∙ append-nil (chosen choice (take index jobs))

-- What is known of the jobs before an index: what those that are chosen need, since when they start, and how soon all can have ended.
pub record IsSofar (jobs : List Job) (choice : Choice) (floor : ℤ) (index : ℕ) (since total end : ℤ) : Type 0 where
  pub sum : total ≡ needed (chosen choice (take index jobs))
  pub from : AllByRecursion (λ (job : Job). since ≤ℤ job.earliest) (chosen choice (take index jobs))
  pub soonest : IsSoonestEnd jobs choice floor end

pub sofar_none : (jobs : List Job) (choice : Choice) (floor since : ℤ) → IsSofar jobs choice floor 0 since (pos 0) floor
sofar_none jobs choice floor since = record { sum = refl; from = tt; soonest = λ start time schedule above all. above }

pub sofar_same : (jobs : List Job) (choice : Choice) (floor : ℤ) (index : ℕ) (since total end : ℤ) (d : Job) → IsSofar jobs choice floor index since total end → index < length jobs
    → takes choice (get_or jobs index d) ≡ false → IsSofar jobs choice floor (index + 1) since total end
sofar_same jobs choice floor index since total end d h within left =
    let same = chosen_same choice jobs index d within left in
    record {
      sum = rw same h.sum;
      from = rw same h.from;
      soonest = h.soonest;
    }

pub below_first : (x y z : ℤ) → x ≤ℤ z → int_min x y ≤ℤ z
below_first x y z low = grind (arith, ints, clamps)

pub below_second : (x y : ℤ) → int_min x y ≤ℤ y
below_second x y = grind (arith, ints, clamps)

pub above_both : (x y z : ℤ) → x ≤ℤ z → y ≤ℤ z → int_max x y ≤ℤ z
above_both x y z p q = grind (arith, ints, clamps)

-- those chosen so far lie within a window from their earliest start to the end of all
all_within : (start : Job → ℤ) (since time : ℤ) (jobs : List Job) → AllByRecursion (IsStarted start) jobs → AllByRecursion (λ (job : Job). since ≤ℤ job.earliest) jobs
    → AllByRecursion (HasEnded start time) jobs → AllByRecursion (IsWithin start since time) jobs
all_within start since time [] started from ended = tt
all_within start since time (job ∷ jobs) started from ended =
    let a = started.0.earliest in
    let b = from.0 in
    (record { begins = omega (arith, ints, a, b); ends = ended.0 }, all_within start since time jobs started.1 from.1 ended.1)

-- a window that holds one of them isn't empty
rises : (start : Job → ℤ) (since time : ℤ) (jobs : List Job) (job : Job) → AllByRecursion (IsStarted start) (jobs ++ job ∷ []) → AllByRecursion (IsWithin start since time) (jobs ++ job ∷ []) → since ≤ℤ time
rises start since time [] job started within =
    let a = started.0.lasts in
    let b = within.0.begins in
    let e = within.0.ends in
    omega (arith, ints, a, b, e)
rises start since time (first ∷ jobs) job started within = rises start since time jobs job started.1 within.1

end_more : (jobs : List Job) (choice : Choice) (floor : ℤ) (index : ℕ) (since total : ℤ) (some : List Job) (job : Job) → chosen choice (take index jobs) ≡ some ++ job ∷ []
    → total ≡ needed (some ++ job ∷ []) → AllByRecursion (λ (x : Job). since ≤ℤ x.earliest) (some ++ job ∷ []) → IsSoonestEnd jobs choice floor (since +ℤ total)
end_more jobs choice floor index since total some job is sum from = λ start time schedule above all.
    let list = some ++ job ∷ [] in
    let part : IsSchedule start list = rw is at (schedule_filter (takes choice) start (take index jobs) (schedule_take start jobs index schedule)) in
    let ended : AllByRecursion (HasEnded start time) list = rw is at (all_filter_take (takes choice) (HasEnded start time) jobs index all) in
    let started = all_started start list part in
    let within = all_within start since time list started from ended in
    let law = within_bounded start since time list part (rises start since time some job started within) within in
    omega (arith, ints, law, sum)

pub sofar_more : (jobs : List Job) (choice : Choice) (floor : ℤ) (index : ℕ) (since total end : ℤ) (d : Job) → IsSofar jobs choice floor index since total end → index < length jobs
    → takes choice (get_or jobs index d) ≡ true
    → IsSofar jobs choice floor (index + 1) (int_min since (get_or jobs index d).earliest) (total +ℤ (get_or jobs index d).duration)
    (int_max end (int_min since (get_or jobs index d).earliest +ℤ (total +ℤ (get_or jobs index d).duration)))
sofar_more jobs choice floor index since total end d h within taken =
    let job = get_or jobs index d in
    let some = chosen choice (take index jobs) in
    let least = int_min since job.earliest in
    let more = chosen_more choice jobs index d within taken in
    let sum : (total +ℤ job.duration) ≡ needed (some ++ job ∷ []) = (let e = needed_more some job in let f = h.sum in omega (arith, ints, e, f)) in
    let from : AllByRecursion (λ (x : Job). least ≤ℤ x.earliest) (some ++ job ∷ []) =
    all_both (λ (x : Job). least ≤ℤ x.earliest) some (job ∷ [])
    (all_each (λ (x : Job). since ≤ℤ x.earliest) (λ (x : Job). least ≤ℤ x.earliest) some (λ x low. below_first since job.earliest x.earliest low) h.from)
    (below_second since job.earliest, tt) in
    record {
      sum = rw more sum;
      from = rw more from;
      soonest = λ start time schedule above all.
          above_both end (least +ℤ (total +ℤ job.duration)) time (h.soonest start time schedule above all)
          (end_more jobs choice floor (index + 1) least (total +ℤ job.duration) some job more sum from start time schedule above all);
    }
