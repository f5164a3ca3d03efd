-- A conflict blocks the starts at which a task would run while the parts that it meets last.
use Rattle.std.proofs.Common.{◌≡◌, ℕ, List, arith}
use Rattle.std.specs.Prelude.{ℤ, pos, ◌+ℤ◌, ◌-ℤ◌, ◌≤ℤ◌, ◌<ℤ◌, slice_get, Some}
use Rattle.std.specs.List.{AllByRecursion}
use Rattle.std.proofs.lemmas.Int.{ints, by_lt_z}
use Rattle.fz_sets.proofs.Lists.{all_at}
use Rattle.fz_strength.specs.declared.open_task.OpenTask.{OpenTask}
use Rattle.fz_strength.specs.Cumulatives.{IsSound, others_at}
use Rattle.fz_cumulative.specs.Findings.{IsBlockedAt}
use Rattle.fz_cumulative.specs.declared.finding.Blocked.TheVariants.{Everywhere, Before, After}
use Rattle.fz_cumulative.specs.Tasks.{IsConflict, IsBlocked, IsStretch}
use Rattle.fz_cumulative.proofs.Parts.{part_grows, others_grow}

-- as long as the parts last the others use no less
stretched : (tasks : List OpenTask) (place : ℕ) (time since until other : ℤ) → AllByRecursion IsSound tasks → IsStretch tasks place time since until → since ≤ℤ other → other <ℤ until
    → others_at time place tasks ≤ℤ others_at other place tasks
stretched tasks place time since until other sound h from to = others_grow tasks place time other (λ i task ne at.
    part_grows task time other (all_at IsSound tasks i task sound at) (λ inside.
    let ends = h.parts i task ne at inside in let a = ends.0 in let b = ends.1 in
    record { begun = omega (arith, ints, a, from); lasting = omega (arith, ints, b, to) }))

passed_on : (tasks : List OpenTask) (bound : ℤ) (place : ℕ) (task : OpenTask) (time other : ℤ) → others_at time place tasks ≤ℤ others_at other place tasks
    → bound <ℤ (others_at time place tasks +ℤ task.usage) → bound <ℤ (others_at other place tasks +ℤ task.usage)
passed_on tasks bound place task time other more passed = omega (arith, ints, more, passed)

pub blocks_from : (tasks : List OpenTask) (bound : ℤ) (place : ℕ) (task : OpenTask) (start time since until : ℤ) → AllByRecursion IsSound tasks → pos 0 <ℤ task.duration
    → IsStretch tasks place time since until → IsConflict tasks bound place task start time
    → (later : ℤ) → start ≤ℤ later → later <ℤ until → IsBlocked tasks bound place task later
blocks_from tasks bound place task start time since until sound lasts h conflict later from to =
    let begun = h.begun in
    by_lt_z time later
    (λ behind. (
      later,
      record {
        begun = omega (arith, ints);
        lasting = omega (arith, ints, lasts);
        passed = passed_on tasks bound place task time later (stretched tasks place time since until later sound h (omega (arith, ints, begun, behind)) to) conflict.passed;
      },
    ))
    (λ before. let end = conflict.lasting in (time, record { begun = before; lasting = omega (arith, ints, end, from); passed = conflict.passed }))

pub blocks_to : (tasks : List OpenTask) (bound : ℤ) (place : ℕ) (task : OpenTask) (start time since until : ℤ) → AllByRecursion IsSound tasks → pos 0 <ℤ task.duration
    → IsStretch tasks place time since until → IsConflict tasks bound place task start time
    → (earlier : ℤ) → (since -ℤ task.duration) <ℤ earlier → earlier ≤ℤ start → IsBlocked tasks bound place task earlier
blocks_to tasks bound place task start time since until sound lasts h conflict earlier from to =
    let met = conflict.begun in
    let begun = h.begun in
    let end = h.lasting in
    by_lt_z since earlier
    (λ behind. (
      earlier,
      record {
        begun = omega (arith, ints);
        lasting = omega (arith, ints, lasts);
        passed = passed_on tasks bound place task time earlier (stretched tasks place time since until earlier sound h (omega (arith, ints, behind)) (omega (arith, ints, to, met, end))) conflict.passed;
      },
    ))
    (λ before. (
      since,
      record {
        begun = before;
        lasting = omega (arith, ints, from);
        passed = passed_on tasks bound place task time since (stretched tasks place time since until since sound h (omega (arith, ints)) (omega (arith, ints, begun, end))) conflict.passed;
      },
    ))

-- ---- where the task is blocked

pub blocked_before : (tasks : List OpenTask) (bound : ℤ) (place : ℕ) (task : OpenTask) (time since until first : ℤ) → AllByRecursion IsSound tasks → pos 0 <ℤ task.duration
    → IsStretch tasks place time since until → slice_get tasks place ≡ Some task → IsConflict tasks bound place task task.earliest time → first ≡ until → IsBlockedAt tasks bound place (Before first)
blocked_before tasks bound place task time since until first sound lasts h at conflict is =
    let begun = conflict.begun in
    let end = h.lasting in
    record {
      task = task;
      at = at;
      holds = (
        omega (arith, ints, begun, end, is),
        λ start from to. blocks_from tasks bound place task task.earliest time since until sound lasts h conflict start from (omega (arith, ints, to, is)),
      );
    }

pub blocked_always_from : (tasks : List OpenTask) (bound : ℤ) (place : ℕ) (task : OpenTask) (time since until : ℤ) → AllByRecursion IsSound tasks → pos 0 <ℤ task.duration
    → IsStretch tasks place time since until → slice_get tasks place ≡ Some task → IsConflict tasks bound place task task.earliest time → task.latest <ℤ until → IsBlockedAt tasks bound place Everywhere
blocked_always_from tasks bound place task time since until sound lasts h at conflict below = record {
  task = task;
  at = at;
  holds = λ start from to. blocks_from tasks bound place task task.earliest time since until sound lasts h conflict start from (omega (arith, ints, to, below));
}

pub blocked_after : (tasks : List OpenTask) (bound : ℤ) (place : ℕ) (task : OpenTask) (time since until last : ℤ) → AllByRecursion IsSound tasks → pos 0 <ℤ task.duration
    → IsStretch tasks place time since until → slice_get tasks place ≡ Some task → IsConflict tasks bound place task task.latest time → last ≡ (since -ℤ task.duration)
    → IsBlockedAt tasks bound place (After last)
blocked_after tasks bound place task time since until last sound lasts h at conflict is =
    let lasting = conflict.lasting in
    let begun = h.begun in
    record {
      task = task;
      at = at;
      holds = (
        omega (arith, ints, begun, lasting, is),
        λ start from to. blocks_to tasks bound place task task.latest time since until sound lasts h conflict start (omega (arith, ints, from, is)) to,
      );
    }

pub blocked_always_to : (tasks : List OpenTask) (bound : ℤ) (place : ℕ) (task : OpenTask) (time since until : ℤ) → AllByRecursion IsSound tasks → pos 0 <ℤ task.duration
    → IsStretch tasks place time since until → slice_get tasks place ≡ Some task → IsConflict tasks bound place task task.latest time → (since -ℤ task.duration) <ℤ task.earliest
    → IsBlockedAt tasks bound place Everywhere
blocked_always_to tasks bound place task time since until sound lasts h at conflict below = record {
  task = task;
  at = at;
  holds = λ start from to. blocks_to tasks bound place task task.latest time since until sound lasts h conflict start (omega (arith, ints, from, below)) to;
}
