-- What tasks are sure to use at a time, by their places.
use Rattle.std.proofs.Common.{◌≡◌, ◌≢◌, ℕ, zero, suc, List, [], ◌∷◌, refl, ap, arith, inl, inr, ◌⊎◌}
use Rattle.std.specs.Prelude.{ℤ, pos, ◌+ℤ◌, ◌≤ℤ◌, ◌<ℤ◌, slice_get, Some}
use Rattle.std.specs.List.{AllByRecursion}
use Rattle.std.proofs.lemmas.Int.{ints, by_lt_z}
use Rattle.fz_sets.proofs.Lists.{some_is, all_of}
use Rattle.fz_strength.specs.declared.open_task.OpenTask.{OpenTask}
use Rattle.fz_strength.specs.Cumulatives.{IsSound, part_at, parts_at, others_at}
use Rattle.fz_cumulative.specs.Tasks.{IsInPart}

pub part_in : (task : OpenTask) (time : ℤ) → IsInPart task time → part_at time task ≡ task.usage
part_in task time h = let a = h.begun in let b = h.lasting in grind (arith, ints)

part_before : (task : OpenTask) (time : ℤ) → time <ℤ task.latest → part_at time task ≡ pos 0
part_before task time h = grind (arith, ints)

part_behind : (task : OpenTask) (time : ℤ) → (task.earliest +ℤ task.duration) ≤ℤ time → part_at time task ≡ pos 0
part_behind task time h = grind (arith, ints)

-- a time is in the part of a task, or the task isn't sure to use anything then
pub cases_part : (task : OpenTask) (time : ℤ) → IsInPart task time ⊎ ((IsInPart task time → ⊥) × (part_at time task ≡ pos 0))
cases_part task time =
    by_lt_z time task.latest
    (λ before. inr ((λ h. let b = h.begun in omega (arith, ints, before, b)), part_before task time before))
    (λ begun. by_lt_z time (task.earliest +ℤ task.duration)
    (λ lasting. inl (record { begun = begun; lasting = lasting }))
    (λ behind. inr ((λ h. let b = h.lasting in omega (arith, ints, behind, b)), part_behind task time behind)))

pub part_out : (task : OpenTask) (time : ℤ) → (IsInPart task time → ⊥) → part_at time task ≡ pos 0
part_out task time out = elim (cases_part task time) [ inl h ↦ absurd (out h) | inr h ↦ h.1 ]

pub part_sound : (task : OpenTask) (time : ℤ) → IsSound task → pos 0 ≤ℤ part_at time task
part_sound task time sound = elim (cases_part task time) [
  | inl h ↦ rw (part_in task time h) sound.1
  | inr h ↦ rw h.1 (omega (arith, ints))
]

-- a task that is in its part at another time too uses no less then
pub part_grows : (task : OpenTask) (time other : ℤ) → IsSound task → (IsInPart task time → IsInPart task other) → part_at time task ≤ℤ part_at other task
part_grows task time other sound still = elim (cases_part task time) [
  | inl h ↦ rw (part_in task time h, part_in task other (still h)) (omega (arith, ints))
  | inr h ↦ rw h.1 (part_sound task other sound)
]

-- ---- sums

pub parts_grow : (tasks : List OpenTask) (time other : ℤ) → AllByRecursion (λ (task : OpenTask). part_at time task ≤ℤ part_at other task) tasks
    → parts_at time tasks ≤ℤ parts_at other tasks
parts_grow [] time other all = omega (arith, ints)
parts_grow (task ∷ tasks) time other all = let a = all.0 in let b = parts_grow tasks time other all.1 in omega (arith, ints, a, b)

pub others_grow : (tasks : List OpenTask) (place : ℕ) (time other : ℤ)
    → ((i : ℕ) (task : OpenTask) → i ≢ place → slice_get tasks i ≡ Some task → part_at time task ≤ℤ part_at other task)
    → others_at time place tasks ≤ℤ others_at other place tasks
others_grow [] place time other each = omega (arith, ints)
others_grow (task ∷ tasks) zero time other each =
    parts_grow tasks time other (all_of (λ (t : OpenTask). part_at time t ≤ℤ part_at other t) tasks (λ i t at. each (suc i) t (λ e. cc) at))
others_grow (task ∷ tasks) (suc place) time other each =
    let a = each zero task (λ e. cc) refl in
    let b = others_grow tasks place time other (λ i task ne at. each (suc i) task (λ e. ne (omega (arith, e))) at) in
    omega (arith, ints, a, b)

-- where no task is in its part, none is sure to use anything
pub parts_none : (tasks : List OpenTask) (time : ℤ) → AllByRecursion (λ (task : OpenTask). IsInPart task time → ⊥) tasks → parts_at time tasks ≡ pos 0
parts_none [] time all = refl
parts_none (task ∷ tasks) time all = rw (part_out task time all.0, parts_none tasks time all.1) refl

-- what all use is what one uses, and the others
pub parts_split : (tasks : List OpenTask) (place : ℕ) (task : OpenTask) (time : ℤ) → slice_get tasks place ≡ Some task
    → parts_at time tasks ≡ (part_at time task +ℤ others_at time place tasks)
parts_split [] place task time at = absurd (cc (at))
parts_split (first ∷ tasks) zero task time at = ap (λ (t : OpenTask). part_at time t +ℤ parts_at time tasks) (some_is first task at)
parts_split (first ∷ tasks) (suc place) task time at = let e = parts_split tasks place task time at in omega (arith, ints, e)
