-- What is found of tasks where nothing is negative.
use Rattle.std.proofs.Common.{◌≡◌, refl, subst, ℕ, zero, suc, ◌+◌, ◌<◌, take, length, get_or, List, [], ◌∷◌, arith, map}
use Rattle.std.specs.Prelude.{ℤ, pos, ◌+ℤ◌, ◌≤ℤ◌, ◌<ℤ◌, int_lt, false, slice_get, Some}
use Rattle.std.specs.List.{AllByRecursion}
use Rattle.std.proofs.lemmas.Int.{ints, by_lt_z}
use Rattle.fz_sets.proofs.Lists.{some_is, all_read_more}
use Rattle.fz_strength.specs.declared.open_task.OpenTask.{OpenTask}
use Rattle.fz_strength.specs.Cumulatives.{IsSound, IsRoom, HasRoom, RestsCumulative, parts_at}
use Rattle.fz_cumulative.specs.Tasks.{profile_of}
use Rattle.fz_cumulative.proofs.Parts.{part_in, part_sound, parts_split}
use Rattle.fz_cumulative.proofs.Peaks.{IsBoundedAt, bounded_always}

pub not_below : (x : ℤ) → int_lt x (pos 0) ≡ false → pos 0 ≤ℤ x
not_below x h = grind (arith, ints)

-- what all are sure to use at the latest starts of some
abbrev loads_at : List OpenTask → List OpenTask → List ℤ
loads_at all tasks = map (λ (task : OpenTask). parts_at task.latest all) tasks

some_passed : (all tasks : List OpenTask) (bound : ℤ) → (AllByRecursion (λ (load : ℤ). load ≤ℤ bound) (loads_at all tasks) → ⊥) → (time : ℤ) × (bound <ℤ parts_at time all)
some_passed all [] bound not = absurd (not tt)
some_passed all (task ∷ tasks) bound not =
    by_lt_z bound (parts_at task.latest all) (λ passed. (task.latest, passed)) (λ within. some_passed all tasks bound (λ rest. not (within, rest)))

pub overload_found : (tasks : List OpenTask) (high : ℤ) → (AllByRecursion (λ (load : ℤ). load ≤ℤ high) (profile_of tasks) → ⊥) → (time : ℤ) × (high <ℤ parts_at time tasks)
overload_found tasks high not = some_passed tasks tasks high not

all_bounded : (all tasks : List OpenTask) (bound : ℤ) → AllByRecursion (λ (load : ℤ). load ≤ℤ bound) (loads_at all tasks) → AllByRecursion (IsBoundedAt all bound) tasks
all_bounded all [] bound h = tt
all_bounded all (task ∷ tasks) bound h = ((λ part. h.0), all_bounded all tasks bound h.1)

pub rest_found : (tasks : List OpenTask) (low high : ℤ) → pos 0 ≤ℤ low → low ≤ℤ high → AllByRecursion IsSound tasks → AllByRecursion (λ (load : ℤ). load ≤ℤ high) (profile_of tasks)
    → ((place : ℕ) (task : OpenTask) → slice_get tasks place ≡ Some task → HasRoom tasks high place task) → RestsCumulative tasks low high
rest_found tasks low high positive ends sound within room = record {
  bound = positive;
  sound = sound;
  parts = bounded_always tasks high sound (omega (arith, ints, positive, ends)) (all_bounded tasks tasks high within);
  room = room;
}

sound_at : (tasks : List OpenTask) (place : ℕ) (task : OpenTask) → AllByRecursion IsSound tasks → slice_get tasks place ≡ Some task → IsSound task
sound_at [] place task sound at = absurd (cc (at))
sound_at (first ∷ tasks) zero task sound at = subst IsSound (some_is first task at) sound.0
sound_at (first ∷ tasks) (suc place) task sound at = sound_at tasks place task sound.1 at

-- A task that can start at one time only has room where the profile is within the bound.
pub fixed_has_room : (tasks : List OpenTask) (bound : ℤ) (place : ℕ) (task : OpenTask) → AllByRecursion IsSound tasks → pos 0 ≤ℤ bound
    → AllByRecursion (λ (load : ℤ). load ≤ℤ bound) (profile_of tasks) → slice_get tasks place ≡ Some task → task.earliest ≡ task.latest → HasRoom tasks bound place task
fixed_has_room tasks bound place task sound positive within at once lasts uses =
    let always = bounded_always tasks bound sound positive (all_bounded tasks tasks bound within) in
    let room : (start : ℤ) → start ≡ task.latest → IsRoom tasks bound place task start =
    λ start is time begun lasting.
    let part = part_in task time (record { begun = omega (arith, ints, is, begun); lasting = omega (arith, ints, is, once, lasting) }) in
    let split = parts_split tasks place task time at in
    let low = always time in
    omega (arith, ints, part, split, low) in
    (room task.earliest once, room task.latest refl)

-- of these all are below the peak, and so is one more
below_greater : (loads : List ℤ) (peak more : ℤ) → peak ≤ℤ more → AllByRecursion (λ (load : ℤ). load ≤ℤ peak) loads → AllByRecursion (λ (load : ℤ). load ≤ℤ more) loads
below_greater [] peak more rise all = tt
below_greater (load ∷ loads) peak more rise all = ((let h = all.0 in omega (arith, ints, rise, h)), below_greater loads peak more rise all.1)

pub peak_more : (loads : List ℤ) (peak more load : ℤ) (i : ℕ) → i < length loads → load ≡ get_or loads i load → peak ≤ℤ more → load ≤ℤ more
    → AllByRecursion (λ (load : ℤ). load ≤ℤ peak) (take i loads) → AllByRecursion (λ (load : ℤ). load ≤ℤ more) (take (i + 1) loads)
peak_more loads peak more load i inside at rise here all =
    all_read_more (λ (x : ℤ). x ≤ℤ more) loads i load inside at (below_greater (take i loads) peak more rise all) here

-- A task has room that fits upon the peak of the profile.
pub small_has_room : (tasks : List OpenTask) (peak bound : ℤ) (place : ℕ) (task : OpenTask) → AllByRecursion IsSound tasks → pos 0 ≤ℤ peak
    → AllByRecursion (λ (load : ℤ). load ≤ℤ peak) (profile_of tasks) → slice_get tasks place ≡ Some task → (peak +ℤ task.usage) ≤ℤ bound → HasRoom tasks bound place task
small_has_room tasks peak bound place task sound positive within at small lasts uses =
    let always = bounded_always tasks peak sound positive (all_bounded tasks tasks peak within) in
    let room : (start : ℤ) → IsRoom tasks bound place task start =
    λ start time begun lasting.
    let part = part_sound task time (sound_at tasks place task sound at) in
    let split = parts_split tasks place task time at in
    let low = always time in
    omega (arith, ints, part, split, low, small) in
    (room task.earliest, room task.latest)
