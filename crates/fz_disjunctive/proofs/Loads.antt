-- What some jobs need, and that one which can't come before all of them waits for one.
use Rattle.std.proofs.Common.{◌≡◌, ◌⊎◌, inl, inr, ℕ, ◌+◌, ◌<◌, ◌≤◌, Bool, true, false, List, [], ◌∷◌, ◌++◌, refl, arith, length, take, get_or}
use Rattle.std.specs.Prelude.{ℤ, pos, ◌+ℤ◌, ◌≤ℤ◌, ◌<ℤ◌, int_le, int_lt, nat_eq, not, ◌&&◌, slice_get, Some}
use Rattle.std.specs.Int.{int_max, int_min}
use Rattle.std.specs.List.{AllByRecursion}
use Rattle.std.proofs.lemmas.Int.{ints}
use Rattle.fz_sets.proofs.Lists.{all_both}
use Rattle.fz_disjunctive.specs.declared.job.Job.{Job}
use Rattle.fz_disjunctive.specs.declared.job.Choice.{Choice}
use Rattle.fz_disjunctive.specs.declared.job.Choice.TheVariants.{Beside}
use Rattle.fz_disjunctive.specs.Schedules.{IsStarted, HasEnded, AreApart, IsSchedule, IsEarliest, IsLoad, needed, takes, chosen}
use Rattle.fz_disjunctive.proofs.Windows.{IsWithin, needed_more, within_bounded}
use Rattle.fz_disjunctive.proofs.Choosing.{above_both, all_each, below_first, below_second, all_passing, all_started, chosen_more, schedule_filter}
use Rattle.fz_disjunctive.proofs.Ordering.{IsOrApart, all_beside, started_at, le_of, other_place, flipped}

-- ---- one job more

abbrev EndsFrom : ℤ → Job → Type 0
EndsFrom first_end job = first_end ≤ℤ (job.earliest +ℤ job.duration)

pub load_more : (choice : Choice) (jobs : List Job) (index : ℕ) (total first_end : ℤ) (d : Job) → index < length jobs → takes choice (get_or jobs index d) ≡ true
    → IsLoad (chosen choice (take index jobs)) total first_end
    → IsLoad (chosen choice (take (index + 1) jobs)) (total +ℤ (get_or jobs index d).duration) (int_min first_end ((get_or jobs index d).earliest +ℤ (get_or jobs index d).duration))
load_more choice jobs index total first_end d within taken h =
    let job = get_or jobs index d in
    let end = job.earliest +ℤ job.duration in
    let some = chosen choice (take index jobs) in
    let sum : (total +ℤ job.duration) ≡ needed (some ++ job ∷ []) = (let e = needed_more some job in let f = h.total_is in omega (arith, ints, e, f)) in
    let ends : AllByRecursion (EndsFrom (int_min first_end end)) (some ++ job ∷ []) =
    all_both (EndsFrom (int_min first_end end)) some (job ∷ [])
    (all_each (EndsFrom first_end) (EndsFrom (int_min first_end end)) some (λ x low. below_first first_end end (x.earliest +ℤ x.duration) low) h.ends)
    (below_second first_end end, tt) in
    rw (chosen_more choice jobs index d within taken) (record { total_is = sum; ends = ends })

-- ---- one that can't come before all of them

-- what is known of those beside a job
record IsOther (start : Job → ℤ) (me : Job) (time : ℤ) (job : Job) : Type 0 where
  started : IsStarted start job
  apart : AreApart start job me
  by : HasEnded start time job

split_and : (a b : Bool) → (a && b) ≡ true → (a ≡ true) × (b ≡ true)
split_and true true e = (refl, refl)
split_and true false e = absurd (cc (e))
split_and false b e = absurd (cc (e))

other_of : (start : Job → ℤ) (me : Job) (time : ℤ) (job : Job) → IsStarted start job → IsOrApart start me job → takes (Beside me time) job ≡ true → IsOther start me time job
other_of start me time job started known taken =
    let both = split_and (not (nat_eq job.place me.place)) (int_le (job.latest +ℤ job.duration) time && int_lt me.earliest (job.earliest +ℤ job.duration)) taken in
    let soon = le_of (job.latest +ℤ job.duration) time (split_and (int_le (job.latest +ℤ job.duration) time) (int_lt me.earliest (job.earliest +ℤ job.duration)) both.1).0 in
    let high = started.latest in
    record {
      started = started;
      apart = elim known [
        | inl same ↦ absurd (other_place job.place me.place (int_le (job.latest +ℤ job.duration) time && int_lt me.earliest (job.earliest +ℤ job.duration)) taken (rw same refl))
        | inr apart ↦ apart
      ];
      by = omega (arith, ints, soon, high);
    }

-- it begins once I have ended
abbrev Follows : (Job → ℤ) → Job → ℤ → Job → Type 0
Follows start me time job = HasEnded start (start job) me × IsWithin start me.earliest time job

follows : (start : Job → ℤ) (me : Job) (time : ℤ) (job : Job) → IsStarted start me → IsOther start me time job → HasEnded start (start job) me → Follows start me time job
follows start me time job mine other ended =
    let low = mine.earliest in
    let lasts = mine.lasts in
    (ended, record { begins = omega (arith, ints, low, lasts, ended); ends = other.by })

-- one of them has ended when I begin, or all follow
one_or_all : (start : Job → ℤ) (me : Job) (time first_end : ℤ) (jobs : List Job) → IsStarted start me → AllByRecursion (EndsFrom first_end) jobs → AllByRecursion (IsOther start me time) jobs
    → (first_end ≤ℤ start me) ⊎ AllByRecursion (Follows start me time) jobs
one_or_all start me time first_end [] mine ends others = inr tt
one_or_all start me time first_end (job ∷ jobs) mine ends others = elim others.0.apart.order [
  | inl first ↦
      let end = ends.0 in
      let low = others.0.started.earliest in
      inl (omega (arith, ints, first, end, low))
  | inr second ↦ elim (one_or_all start me time first_end jobs mine ends.1 others.1) [
    | inl one ↦ inl one
    | inr all ↦ inr (follows start me time job mine others.0 second, all)
  ]
]

-- I lie within the window of those that follow, if there is one
me_within : (start : Job → ℤ) (me : Job) (time : ℤ) (jobs : List Job) → IsStarted start me → pos 0 <ℤ needed jobs → AllByRecursion (IsStarted start) jobs → AllByRecursion (Follows start me time) jobs → IsWithin start me.earliest time me
me_within start me time [] mine some started all = absurd (omega (arith, ints, some))
me_within start me time (job ∷ jobs) mine some started all =
    let ended = all.0.0 in
    let by = all.0.1.ends in
    let lasts = started.0.lasts in
    record { begins = mine.earliest; ends = omega (arith, ints, ended, by, lasts) }

pub waits_for_one : (jobs : List Job) (index : ℕ) (me : Job) (time total first_end : ℤ) → slice_get jobs index ≡ Some me → IsLoad (chosen (Beside me time) jobs) total first_end
    → pos 0 <ℤ total → time <ℤ (me.earliest +ℤ (total +ℤ me.duration)) → IsEarliest jobs first_end me
waits_for_one jobs index me time total first_end at load some over = λ start h.
    let mine = started_at start jobs index me h at in
    let list = chosen (Beside me time) jobs in
    let others : AllByRecursion (IsOther start me time) list = all_passing (takes (Beside me time)) (IsOther start me time) jobs
    (all_each (λ (job : Job). IsStarted start job × IsOrApart start me job) (λ (job : Job). takes (Beside me time) job ≡ true → IsOther start me time job) jobs
    (λ job known taken. other_of start me time job known.0 known.1 taken) (all_beside start jobs index me h at)) in
    elim (one_or_all start me time first_end list mine load.ends others) [
      | inl one ↦ one
      | inr all ↦
          let part : IsSchedule start list = schedule_filter (takes (Beside me time)) start jobs h in
          let whole : IsSchedule start (me ∷ list) = (mine, all_each (IsOther start me time) (AreApart start me) list (λ job other. flipped start job me other.apart) others, part) in
          let need = load.total_is in
          let here : IsWithin start me.earliest time me = me_within start me time list mine (omega (arith, ints, some, need)) (all_started start list part) all in
          let begins = here.begins in
          let ends = here.ends in
          let lasts = mine.lasts in
          let within : AllByRecursion (IsWithin start me.earliest time) (me ∷ list) = (here, all_each (Follows start me time) (IsWithin start me.earliest time) list (λ job both. both.1) all) in
          let law = within_bounded start me.earliest time (me ∷ list) whole (omega (arith, ints, begins, ends, lasts)) within in
          absurd (omega (arith, ints, law, need, over))
    ]

-- the later of two times
pub later_of : (jobs : List Job) (x y : ℤ) (me : Job) → IsEarliest jobs x me → IsEarliest jobs y me → IsEarliest jobs (int_max x y) me
later_of jobs x y me one other = λ start h. above_both x y (start me) (one start h) (other start h)
