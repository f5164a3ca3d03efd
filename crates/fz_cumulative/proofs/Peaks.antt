-- What tasks are sure to use is greatest at the latest start of one of them.
use Rattle.std.proofs.Common.{◌≡◌, ℕ, zero, suc, List, [], ◌∷◌, refl, arith, inl, inr, ◌⊎◌}
use Rattle.std.specs.Prelude.{ℤ, pos, ◌+ℤ◌, ◌≤ℤ◌, ◌<ℤ◌, slice_get, Some}
use Rattle.std.specs.List.{AllByRecursion}
use Rattle.std.proofs.lemmas.Int.{ints, by_lt_z}
use Rattle.fz_sets.proofs.Lists.{all_at, all_of}
use Rattle.fz_strength.specs.declared.open_task.OpenTask.{OpenTask}
use Rattle.fz_strength.specs.Cumulatives.{IsSound, IsRoom, part_at, parts_at, others_at}
use Rattle.fz_cumulative.specs.Tasks.{IsInPart}
use Rattle.fz_cumulative.proofs.Parts.{cases_part, part_grows, parts_grow, others_grow, parts_none}

abbrev IsLaterThan : ℤ → ℤ → OpenTask → Type 0
IsLaterThan time peak task = IsInPart task time → task.latest ≤ℤ peak

-- the task in its part at a time that has the latest start of all that are
record IsPeak (tasks : List OpenTask) (time : ℤ) : Type 0 where
  place : ℕ
  task : OpenTask
  at : slice_get tasks place ≡ Some task
  inside : IsInPart task time
  latest : AllByRecursion (IsLaterThan time task.latest) tasks

no_later : (tasks : List OpenTask) (time peak higher : ℤ) → peak ≤ℤ higher → AllByRecursion (IsLaterThan time peak) tasks → AllByRecursion (IsLaterThan time higher) tasks
no_later [] time peak higher le all = tt
no_later (task ∷ tasks) time peak higher le all = ((λ inside. let a = all.0 inside in omega (arith, ints, a, le)), no_later tasks time peak higher le all.1)

no_later_of_none : (tasks : List OpenTask) (time peak : ℤ) → AllByRecursion (λ (task : OpenTask). IsInPart task time → ⊥) tasks → AllByRecursion (IsLaterThan time peak) tasks
no_later_of_none [] time peak all = tt
no_later_of_none (task ∷ tasks) time peak all = ((λ inside. absurd (all.0 inside)), no_later_of_none tasks time peak all.1)

peak_with : (task : OpenTask) (tasks : List OpenTask) (time : ℤ) → IsInPart task time → IsPeak tasks time → IsPeak (task ∷ tasks) time
peak_with task tasks time inside peak =
    by_lt_z peak.task.latest task.latest
    (λ below. record {
      place = zero;
      task = task;
      at = refl;
      inside = inside;
      latest = ((λ same. omega (arith, ints)), no_later tasks time peak.task.latest task.latest (omega (arith, ints, below)) peak.latest);
    })
    (λ above. record { place = suc peak.place; task = peak.task; at = peak.at; inside = peak.inside; latest = ((λ same. above), peak.latest) })

peak_of : (tasks : List OpenTask) (time : ℤ) → AllByRecursion (λ (task : OpenTask). IsInPart task time → ⊥) tasks ⊎ IsPeak tasks time
peak_of [] time = inl tt
peak_of (task ∷ tasks) time = elim (cases_part task time) [
  | inl inside ↦ elim (peak_of tasks time) [
    | inl none ↦ inr (record { place = zero; task = task; at = refl; inside = inside; latest = ((λ same. omega (arith, ints)), no_later_of_none tasks time task.latest none) })
    | inr peak ↦ inr (peak_with task tasks time inside peak)
  ]
  | inr out ↦ elim (peak_of tasks time) [
    | inl none ↦ inl (out.0, none)
    | inr peak ↦ inr (record { place = suc peak.place; task = peak.task; at = peak.at; inside = peak.inside; latest = ((λ inside. absurd (out.0 inside)), peak.latest) })
  ]
]

-- a task that is in its part at a time is so at an earlier one after its latest start
still_in : (task : OpenTask) (time earlier : ℤ) → earlier ≤ℤ time → task.latest ≤ℤ earlier → IsInPart task time → IsInPart task earlier
still_in task time earlier before begun h = record { begun = begun; lasting = let l = h.lasting in omega (arith, ints, l, before) }

peak_grows : (tasks : List OpenTask) (time earlier peak : ℤ) → AllByRecursion IsSound tasks → earlier ≤ℤ time → peak ≤ℤ earlier → AllByRecursion (IsLaterThan time peak) tasks
    → (i : ℕ) (task : OpenTask) → slice_get tasks i ≡ Some task → part_at time task ≤ℤ part_at earlier task
peak_grows tasks time earlier peak sound before behind all i task at =
    part_grows task time earlier (all_at IsSound tasks i task sound at)
    (λ inside. still_in task time earlier before (let a = all_at (IsLaterThan time peak) tasks i task all at inside in omega (arith, ints, a, behind)) inside)

none_grows : (tasks : List OpenTask) (time other : ℤ) → AllByRecursion IsSound tasks → AllByRecursion (λ (task : OpenTask). IsInPart task time → ⊥) tasks
    → (i : ℕ) (task : OpenTask) → slice_get tasks i ≡ Some task → part_at time task ≤ℤ part_at other task
none_grows tasks time other sound none i task at =
    part_grows task time other (all_at IsSound tasks i task sound at) (λ inside. absurd (all_at (λ (t : OpenTask). IsInPart t time → ⊥) tasks i task none at inside))

-- ---- the bound holds at all times where it does at the latest start of each task that has a compulsory part

abbrev pub IsBoundedAt : List OpenTask → ℤ → OpenTask → Type 0
IsBoundedAt tasks bound task = task.latest <ℤ (task.earliest +ℤ task.duration) → parts_at task.latest tasks ≤ℤ bound

pub bounded_always : (tasks : List OpenTask) (bound : ℤ) → AllByRecursion IsSound tasks → pos 0 ≤ℤ bound → AllByRecursion (IsBoundedAt tasks bound) tasks
    → (time : ℤ) → parts_at time tasks ≤ℤ bound
bounded_always tasks bound sound positive all time = elim (peak_of tasks time) [
  | inl none ↦ rw (parts_none tasks time none) positive
  | inr peak ↦
      let begun = peak.inside.begun in
      let lasting = peak.inside.lasting in
      let here : parts_at peak.task.latest tasks ≤ℤ bound =
      all_at (IsBoundedAt tasks bound) tasks peak.place peak.task all peak.at (omega (arith, ints, begun, lasting)) in
      let more : parts_at time tasks ≤ℤ parts_at peak.task.latest tasks =
      parts_grow tasks time peak.task.latest (all_of (λ (t : OpenTask). part_at time t ≤ℤ part_at peak.task.latest t) tasks
      (peak_grows tasks time peak.task.latest peak.task.latest sound begun (omega (arith, ints)) peak.latest)) in
      omega (arith, ints, here, more)
]

-- ---- a task has room at a start if it has at the start itself and at the latest starts of tasks as long as it lasts

abbrev pub FitsAt : List OpenTask → ℤ → ℕ → OpenTask → ℤ → Type 0
FitsAt tasks bound place task time = (others_at time place tasks +ℤ task.usage) ≤ℤ bound

abbrev pub FitsAtStart : List OpenTask → ℤ → ℕ → OpenTask → ℤ → OpenTask → Type 0
FitsAtStart tasks bound place task start other = start ≤ℤ other.latest → other.latest <ℤ (start +ℤ task.duration) → FitsAt tasks bound place task other.latest

grown_fits : (tasks : List OpenTask) (bound : ℤ) (place : ℕ) (task : OpenTask) (time other : ℤ)
    → ((i : ℕ) (t : OpenTask) → slice_get tasks i ≡ Some t → part_at time t ≤ℤ part_at other t) → FitsAt tasks bound place task other → FitsAt tasks bound place task time
grown_fits tasks bound place task time other each fits = let more = others_grow tasks place time other (λ i t ne at. each i t at) in omega (arith, ints, more, fits)

pub room_at : (tasks : List OpenTask) (bound : ℤ) (place : ℕ) (task : OpenTask) (start : ℤ) → AllByRecursion IsSound tasks → FitsAt tasks bound place task start
    → AllByRecursion (FitsAtStart tasks bound place task start) tasks → IsRoom tasks bound place task start
room_at tasks bound place task start sound fits all = λ time begun lasting. elim (peak_of tasks time) [
  | inl none ↦ grown_fits tasks bound place task time start (none_grows tasks time start sound none) fits
  | inr peak ↦
      let before = peak.inside.begun in
      by_lt_z peak.task.latest start
      (λ below. grown_fits tasks bound place task time start (peak_grows tasks time start peak.task.latest sound begun (omega (arith, ints, below)) peak.latest) fits)
      (λ above. grown_fits tasks bound place task time peak.task.latest (peak_grows tasks time peak.task.latest peak.task.latest sound before (omega (arith, ints)) peak.latest)
      (all_at (FitsAtStart tasks bound place task start) tasks peak.place peak.task all peak.at above (omega (arith, ints, before, lasting))))
]
