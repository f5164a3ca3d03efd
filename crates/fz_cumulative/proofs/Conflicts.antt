-- Where a task meets a time at which it passes the bound, by what the code compares.
use Rattle.std.proofs.Common.{◌≡◌, ℕ, ◌+◌, ◌<◌, ◌≤◌, List, sym, ap, subst, ◌∙◌, arith, length, get_or, take, add-one}
use Rattle.std.specs.Prelude.{ℤ, pos, ◌+ℤ◌, ◌≤ℤ◌, ◌<ℤ◌, slice_get, Some}
use Rattle.std.specs.List.{AllByRecursion}
use Rattle.std.proofs.lemmas.Int.{ints, by_lt_z}
use Rattle.std.proofs.lemmas.List.{take_all}
use Rattle.fz_sets.proofs.Lists.{all_more}
use Rattle.fz_strength.specs.declared.open_task.OpenTask.{OpenTask}
use Rattle.fz_strength.specs.Cumulatives.{IsSound, IsRoom, parts_at, others_at}
use Rattle.fz_cumulative.specs.Tasks.{profile_of, IsMet, IsConflict}
use Rattle.fz_cumulative.proofs.Parts.{parts_split}
use Rattle.fz_cumulative.proofs.Peaks.{FitsAt, FitsAtStart, room_at}
use Rattle.fz_cumulative.proofs.Reading.{read_is, map_at}

-- the profile at the latest start of a task
pub load_is : (loads : List ℤ) (tasks : List OpenTask) (i : ℕ) (d : ℤ) (e : OpenTask) → loads ≡ profile_of tasks → i < length tasks → get_or loads i d ≡ parts_at (get_or tasks i e).latest tasks
load_is loads tasks i d e is h = ap (λ (xs : List ℤ). get_or xs i d) is ∙ map_at (λ (t : OpenTask). parts_at t.latest tasks) tasks i e d h

met_at : (tasks : List OpenTask) (bound : ℤ) (place : ℕ) (task : OpenTask) (start time load : ℤ) → slice_get tasks place ≡ Some task → load ≡ parts_at time tasks
    → IsMet task load start time bound → IsConflict tasks bound place task start time
met_at tasks bound place task start time load at is h =
    let passed = h.over.passed in
    let split = parts_split tasks place task time at in
    record { begun = h.running.begun; lasting = h.running.lasting; passed = omega (arith, ints, passed, is, split) }

unmet_fits : (tasks : List OpenTask) (bound : ℤ) (place : ℕ) (task : OpenTask) (start time load : ℤ) → slice_get tasks place ≡ Some task → load ≡ parts_at time tasks
    → (IsMet task load start time bound → ⊥) → start ≤ℤ time → time <ℤ (start +ℤ task.duration) → FitsAt tasks bound place task time
unmet_fits tasks bound place task start time load at is unmet begun lasting =
    let split = parts_split tasks place task time at in
    by_lt_z bound (others_at time place tasks +ℤ task.usage)
    (λ passed. absurd (unmet (record { running = record { begun = begun; lasting = lasting }; over = record { passed = omega (arith, ints, passed, is, split) } })))
    (λ fits. fits)

-- ---- of the task that is read

pub conflict_read : (tasks : List OpenTask) (bound : ℤ) (place : ℕ) (task d : OpenTask) (start time load : ℤ) → slice_get tasks place ≡ Some task → load ≡ parts_at time tasks
    → IsMet (get_or tasks place d) load start time bound → IsConflict tasks bound place task start time
conflict_read tasks bound place task d start time load at is h =
    met_at tasks bound place task start time load at is (subst (λ (t : OpenTask). IsMet t load start time bound) (sym (read_is tasks place task d at)) h)

pub start_fits : (tasks : List OpenTask) (bound : ℤ) (place : ℕ) (task d : OpenTask) (start load : ℤ) → slice_get tasks place ≡ Some task → load ≡ parts_at start tasks → pos 0 <ℤ task.duration
    → (IsMet (get_or tasks place d) load start start bound → ⊥) → FitsAt tasks bound place task start
start_fits tasks bound place task d start load at is lasts unmet =
    unmet_fits tasks bound place task start start load at is (subst (λ (t : OpenTask). IsMet t load start start bound → ⊥) (sym (read_is tasks place task d at)) unmet)
    (omega (arith, ints)) (omega (arith, ints, lasts))

pub fits_more : (tasks : List OpenTask) (bound : ℤ) (place : ℕ) (task d e : OpenTask) (start load : ℤ) (i : ℕ) → slice_get tasks place ≡ Some task → i < length tasks
    → load ≡ parts_at (get_or tasks i e).latest tasks → (IsMet (get_or tasks place d) load start (get_or tasks i e).latest bound → ⊥)
    → AllByRecursion (FitsAtStart tasks bound place task start) (take i tasks) → AllByRecursion (FitsAtStart tasks bound place task start) (take (i + 1) tasks)
fits_more tasks bound place task d e start load i at h is unmet so_far = rw (add-one i) (all_more (FitsAtStart tasks bound place task start) tasks i e h so_far
    (λ begun lasting. unmet_fits tasks bound place task start (get_or tasks i e).latest load at is
    (subst (λ (t : OpenTask). IsMet t load start (get_or tasks i e).latest bound → ⊥) (sym (read_is tasks place task d at)) unmet) begun lasting))

pub room_of : (tasks : List OpenTask) (bound : ℤ) (place : ℕ) (task d : OpenTask) (start load : ℤ) (i : ℕ) → AllByRecursion IsSound tasks → slice_get tasks place ≡ Some task → pos 0 <ℤ task.duration
    → load ≡ parts_at start tasks → (IsMet (get_or tasks place d) load start start bound → ⊥) → length tasks ≤ i
    → AllByRecursion (FitsAtStart tasks bound place task start) (take i tasks) → IsRoom tasks bound place task start
room_of tasks bound place task d start load i sound at lasts is unmet end all =
    room_at tasks bound place task start sound (start_fits tasks bound place task d start load at is lasts unmet)
    (rw (take_all i tasks end) at all)
