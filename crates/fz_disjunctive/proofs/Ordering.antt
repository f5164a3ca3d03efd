-- What the jobs that are chosen tell of the order.
use Rattle.std.proofs.Common.{◌≡◌, ◌≢◌, ◌⊎◌, inl, inr, ℕ, zero, suc, Bool, true, false, List, [], ◌∷◌, refl, sym, subst, arith}
use Rattle.std.specs.Prelude.{ℤ, ◌+ℤ◌, ◌≤ℤ◌, ◌<ℤ◌, int_le, int_lt, nat_eq, not, ◌&&◌, ◌||◌, slice_get, Some}
use Rattle.std.specs.List.{AllByRecursion}
use Rattle.std.proofs.lemmas.Bool.{eq-eqb, ne_eqb}
use Rattle.std.proofs.lemmas.Int.{ints, by_lt_z}
use Rattle.fz_sets.proofs.Lists.{some_is, all_at}
use Rattle.fz_disjunctive.specs.declared.job.Job.{Job}
use Rattle.fz_disjunctive.specs.declared.job.Choice.{Choice}
use Rattle.fz_disjunctive.specs.declared.job.Choice.TheVariants.{EndingBy, EndingByOrAt, Before}
use Rattle.fz_disjunctive.specs.Schedules.{IsStarted, HasEnded, AreApart, IsSchedule, IsSoonestEnd, IsBehind, IsEarliest, HasNoSchedule, takes}
use Rattle.fz_disjunctive.proofs.Choosing.{all_each, all_passing, all_started}

-- ---- each job beside one of them

abbrev pub IsOrApart : (Job → ℤ) → Job → Job → Type 0
IsOrApart start me job = (job ≡ me) ⊎ AreApart start job me

pub flipped : (start : Job → ℤ) (one other : Job) → AreApart start one other → AreApart start other one
flipped start one other h = record {
  places = λ e. h.places (sym e);
  order = elim h.order [ inl first ↦ inr first | inr second ↦ inl second ];
}

all_first : (start : Job → ℤ) (first me : Job) (jobs : List Job) → first ≡ me → AllByRecursion (AreApart start first) jobs → AllByRecursion (IsStarted start) jobs
    → AllByRecursion (λ (job : Job). IsStarted start job × IsOrApart start me job) jobs
all_first start first me [] same apart started = tt
all_first start first me (job ∷ jobs) same apart started = (
  (started.0, inr (rw (← same) (flipped start first job apart.0))),
  all_first start first me jobs same apart.1 started.1,
)

pub all_beside : (start : Job → ℤ) (jobs : List Job) (index : ℕ) (me : Job) → IsSchedule start jobs → slice_get jobs index ≡ Some me
    → AllByRecursion (λ (job : Job). IsStarted start job × IsOrApart start me job) jobs
all_beside start [] index me h at = tt
all_beside start (job ∷ jobs) zero me h at =
    let same : job ≡ me = some_is job me at in
    ((h.0, inl same), all_first start job me jobs same h.1 (all_started start jobs h.2))
all_beside start (job ∷ jobs) (suc index) me h at =
    ((h.0, inr (all_at (AreApart start job) jobs index me h.1 at)), all_beside start jobs index me h.2 at)

pub started_at : (start : Job → ℤ) (jobs : List Job) (index : ℕ) (me : Job) → IsSchedule start jobs → slice_get jobs index ≡ Some me → IsStarted start me
started_at start jobs index me h at = all_at (IsStarted start) jobs index me (all_started start jobs h) at

-- ---- what a choice tells of a job

pub le_of : (x y : ℤ) → int_le x y ≡ true → x ≤ℤ y
le_of x y h = grind (arith, ints)

pub lt_of : (x y : ℤ) → int_lt x y ≡ true → x <ℤ y
lt_of x y h = grind (arith, ints)

ends_by : (start : Job → ℤ) (time : ℤ) (job : Job) → IsStarted start job → int_le (job.latest +ℤ job.duration) time ≡ true → HasEnded start time job
ends_by start time job h taken = let b = h.latest in let e = le_of (job.latest +ℤ job.duration) time taken in omega (arith, ints, b, e)

-- ---- too much

pub overloaded : (jobs : List Job) (floor time end : ℤ) → floor ≤ℤ time → IsSoonestEnd jobs (EndingBy time) floor end → time <ℤ end → HasNoSchedule jobs
overloaded jobs floor time end from soonest over = λ start h.
    let all = all_passing (takes (EndingBy time)) (HasEnded start time) jobs
    (all_each (IsStarted start) (λ (job : Job). takes (EndingBy time) job ≡ true → HasEnded start time job) jobs (λ job started taken. ends_by start time job started taken) (all_started start jobs h)) in
    let low = soonest start time h from all in
    omega (arith, ints, low, over)

-- ---- those before a job

pub other_place : (m n : ℕ) (b : Bool) → (not (nat_eq m n) && b) ≡ true → m ≢ n
other_place m n b both = λ e. absurd (cc (rw (eq-eqb m n e) at both))

that_early : (x y : ℤ) (b : Bool) → (b && int_lt x y) ≡ true → x <ℤ y
that_early x y true both = lt_of x y both
that_early x y false both = absurd (cc (both))

before_me : (start : Job → ℤ) (me job : Job) → IsStarted start me → IsStarted start job → IsOrApart start me job → takes (Before me) job ≡ true → HasEnded start (start me) job
before_me start me job mine is (inl same) taken = absurd (other_place job.place me.place (int_lt job.latest (me.earliest +ℤ me.duration)) taken (rw same refl))
before_me start me job mine is (inr apart) taken = elim apart.order [
  | inl first ↦ first
  | inr second ↦
      let early = that_early job.latest (me.earliest +ℤ me.duration) (not (nat_eq job.place me.place)) taken in
      let low = mine.earliest in
      let high = is.latest in
      absurd (omega (arith, ints, early, low, high, second))
]

pub behind_before : (jobs : List Job) (index : ℕ) (me : Job) → slice_get jobs index ≡ Some me → IsBehind jobs (Before me) me
behind_before jobs index me at = λ start h.
    let mine = started_at start jobs index me h at in
    all_passing (takes (Before me)) (HasEnded start (start me)) jobs
    (all_each (λ (job : Job). IsStarted start job × IsOrApart start me job) (λ (job : Job). takes (Before me) job ≡ true → HasEnded start (start me) job) jobs
    (λ job known taken. before_me start me job mine known.0 known.1 taken) (all_beside start jobs index me h at))

-- the least end of what it is after, from a time on that is no later than its start
pub earliest_behind : (jobs : List Job) (index : ℕ) (me : Job) (choice : Choice) (floor end : ℤ) → IsEarliest jobs floor me → IsBehind jobs choice me → IsSoonestEnd jobs choice floor end → IsEarliest jobs end me
earliest_behind jobs index me choice floor end low behind soonest = λ start h. soonest start (start me) h (low start h) (behind start h)

pub earliest_same : (jobs : List Job) (time : ℤ) (me other : Job) → me ≡ other → IsEarliest jobs time me → IsEarliest jobs time other
earliest_same jobs time me other same h = subst (λ (x : Job). IsEarliest jobs time x) same h

pub earliest_known : (jobs : List Job) (index : ℕ) (me : Job) → slice_get jobs index ≡ Some me → IsEarliest jobs me.earliest me
earliest_known jobs index me at = λ start h. (started_at start jobs index me h at).earliest

-- ---- those that end by a time, where it can't beside them

either_way : (m n : ℕ) (x y : ℤ) → (nat_eq m n || int_le x y) ≡ true → (m ≡ n → ⊥) → x ≤ℤ y
either_way m n x y either ne = le_of x y (rw (ne_eqb m n ne) at either)

or_me : (start : Job → ℤ) (time : ℤ) (me job : Job) → HasEnded start time me → IsStarted start job → IsOrApart start me job → takes (EndingByOrAt time me.place) job ≡ true → HasEnded start time job
or_me start time me job mine is (inl same) taken = rw same mine
or_me start time me job mine is (inr apart) taken =
    let soon = either_way job.place me.place (job.latest +ℤ job.duration) time taken apart.places in
    let high = is.latest in
    omega (arith, ints, soon, high)

not_both : (x y : ℤ) → int_le x y ≡ true → y <ℤ x → ⊥
not_both x y low high = let e = le_of x y low in omega (arith, ints, e, high)

behind_me : (start : Job → ℤ) (time : ℤ) (me job : Job) → time <ℤ (start me +ℤ me.duration) → time <ℤ (me.latest +ℤ me.duration) → IsStarted start job → IsOrApart start me job
    → takes (EndingBy time) job ≡ true → HasEnded start (start me) job
behind_me start time me job late later is (inl same) taken = absurd (not_both (me.latest +ℤ me.duration) time (rw same at taken) later)
behind_me start time me job late later is (inr apart) taken = elim apart.order [
  | inl first ↦ first
  | inr second ↦
      let ended = ends_by start time job is taken in
      let lasts = is.lasts in
      absurd (omega (arith, ints, ended, lasts, late, second))
]

pub behind_ending : (jobs : List Job) (index : ℕ) (me : Job) (time end : ℤ) → slice_get jobs index ≡ Some me → time <ℤ (me.latest +ℤ me.duration)
    → IsSoonestEnd jobs (EndingByOrAt time me.place) time end → time <ℤ end → IsBehind jobs (EndingBy time) me
behind_ending jobs index me time end at later soonest over = λ start h.
    let beside = all_beside start jobs index me h at in
    by_lt_z time (start me +ℤ me.duration)
    (λ late.
    all_passing (takes (EndingBy time)) (HasEnded start (start me)) jobs
    (all_each (λ (job : Job). IsStarted start job × IsOrApart start me job) (λ (job : Job). takes (EndingBy time) job ≡ true → HasEnded start (start me) job) jobs
    (λ job known taken. behind_me start time me job late later known.0 known.1 taken) beside))
    (λ ended.
    let all = all_passing (takes (EndingByOrAt time me.place)) (HasEnded start time) jobs
    (all_each (λ (job : Job). IsStarted start job × IsOrApart start me job) (λ (job : Job). takes (EndingByOrAt time me.place) job ≡ true → HasEnded start time job) jobs
    (λ job known taken. or_me start time me job ended known.0 known.1 taken) beside) in
    let low = soonest start time h (omega (arith, ints)) all in
    absurd (omega (arith, ints, low, over)))
