-- The stretch of the parts that have a time, task by task.
use Rattle.std.proofs.Common.{◌≡◌, ◌≢◌, ℕ, ◌+◌, ◌<◌, ◌≤◌, List, length, arith, subst, inl, inr}
use Rattle.std.specs.Prelude.{ℤ, pos, negsuc, ◌+ℤ◌, ◌≤ℤ◌, ◌<ℤ◌, slice_get, Some}
use Rattle.std.specs.Int.{int_max, int_min}
use Rattle.std.proofs.lemmas.Bool.{cases_eq}
use Rattle.std.proofs.lemmas.Int.{ints, clamps}
use Rattle.std.proofs.lemmas.Option.{slice_get_within}
use Rattle.fz_strength.specs.declared.open_task.OpenTask.{OpenTask}
use Rattle.fz_cumulative.specs.Tasks.{IsInPart, IsStretch}

-- the stretch of the tasks before a place
pub record IsStretchBefore (tasks : List OpenTask) (place : ℕ) (time since until : ℤ) (n : ℕ) : Type 0 where
  pub begun : since ≤ℤ time
  pub lasting : time <ℤ until
  pub near : negsuc 1099511627775 ≤ℤ since
  pub near_end : until ≤ℤ pos 1099511627776
  pub parts : (i : ℕ) (task : OpenTask) → i < n → i ≢ place → slice_get tasks i ≡ Some task → IsInPart task time
      → (task.latest ≤ℤ since) × (until ≤ℤ (task.earliest +ℤ task.duration))

-- a task is passed that isn't in its part, or whose place it is
pub stretch_passed : (tasks : List OpenTask) (place : ℕ) (time since until : ℤ) (n : ℕ) → ((task : OpenTask) → n ≢ place → slice_get tasks n ≡ Some task → IsInPart task time → ⊥)
    → IsStretchBefore tasks place time since until n → IsStretchBefore tasks place time since until (n + 1)
stretch_passed tasks place time since until n out h = record {
  begun = h.begun;
  lasting = h.lasting;
  near = h.near;
  near_end = h.near_end;
  parts = λ i task below other at inside. elim (cases_eq i n) [
    | inl e ↦ absurd (out task (λ same. other (omega (arith, e, same))) (let P : ℕ → Type 0 = λ (k : ℕ). slice_get tasks k ≡ Some task in subst P e at) inside)
    | inr ne ↦ h.parts i task (omega (arith, below, ne)) other at inside
  ];
}

pub stretch_more : (tasks : List OpenTask) (place : ℕ) (time since until : ℤ) (n : ℕ) (task : OpenTask) → slice_get tasks n ≡ Some task → IsInPart task time
    → IsStretchBefore tasks place time since until n
    → IsStretchBefore tasks place time (int_max since task.latest) (int_min until (task.earliest +ℤ task.duration)) (n + 1)
stretch_more tasks place time since until n task at inside h =
    let begun = h.begun in
    let lasting = h.lasting in
    let near = h.near in
    let near_end = h.near_end in
    let from = inside.begun in
    let to = inside.lasting in
    record {
      begun = omega (arith, ints, clamps, begun, from);
      lasting = omega (arith, ints, clamps, lasting, to);
      near = omega (arith, ints, clamps, near);
      near_end = omega (arith, ints, clamps, near_end);
      parts = λ i other below apart at_i in_i. elim (cases_eq i n) [
        | inl e ↦
            let same : task ≡ other = cc (at, e, at_i) in
            let P : OpenTask → Type 0 = λ (t : OpenTask). (t.latest ≤ℤ int_max since task.latest) × (int_min until (task.earliest +ℤ task.duration) ≤ℤ (t.earliest +ℤ t.duration)) in
            subst P same (omega (arith, ints, clamps), omega (arith, ints, clamps))
        | inr ne ↦
            let ends = h.parts i other (omega (arith, below, ne)) apart at_i in_i in
            let a = ends.0 in let b = ends.1 in
            (omega (arith, ints, clamps, a), omega (arith, ints, clamps, b))
      ];
    }

pub stretch_all : (tasks : List OpenTask) (place : ℕ) (time since until : ℤ) (n : ℕ) → length tasks ≤ n → IsStretchBefore tasks place time since until n → IsStretch tasks place time since until
stretch_all tasks place time since until n end h = record {
  begun = h.begun;
  lasting = h.lasting;
  parts = λ i task other at inside. h.parts i task (omega (arith, end, slice_get_within tasks i task at)) other at inside;
}
