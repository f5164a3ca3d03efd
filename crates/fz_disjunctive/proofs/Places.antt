-- Jobs at places of their own, in any order.
use Rattle.std.proofs.Common.{◌≡◌, ◌≢◌, inl, inr, ℕ, ◌+◌, ◌<◌, ◌≤◌, List, [], ◌∷◌, ◌++◌, refl, sym, ap, ◌∙◌, subst, arith}
use Rattle.std.specs.Prelude.{ℤ, nat_eq, cond, slice_get, Some}
use Rattle.std.specs.List.{AllByRecursion}
use Rattle.std.specs.List.Sorted.{IsPermutation}
use Rattle.std.proofs.lemmas.Bool.{cases_eq, eq-eqb, ne_eqb}
use Rattle.std.proofs.lemmas.List.Elements.{All-from_recursion, recursion_from_All}
use Rattle.std.proofs.lemmas.List.Sorted.{All-permutation, sum_by-IsPermutation}
use Rattle.std.proofs.lemmas.List.Sums.{sum_by-cons, sum_by_push}
use Rattle.fz_sets.proofs.Lists.{all_both}
use Rattle.fz_strength.specs.declared.open_task.OpenTask.{OpenTask}
use Rattle.fz_disjunctive.specs.declared.job.Job.{Job}
use Rattle.fz_disjunctive.specs.declared.job.Direction.{Direction}
use Rattle.fz_disjunctive.specs.declared.job.Direction.TheVariants.{Forward, Backward}
use Rattle.fz_disjunctive.specs.Jobs.{IsWide, IsJobOf, AreJobs, job_of, jobs_at}
use Rattle.fz_disjunctive.proofs.Choosing.{all_each}

-- whether a job is at a place, as a number
abbrev at_place : ℕ → Job → ℕ
at_place place job = cond (nat_eq job.place place) 1 0

at_same : (place : ℕ) (job : Job) → job.place ≡ place → at_place place job ≡ 1
at_same place job same = rw (eq-eqb job.place place same) refl

at_other : (place : ℕ) (job : Job) → (job.place ≡ place → ⊥) → at_place place job ≡ 0
at_other place job other = rw (ne_eqb job.place place other) refl

jobs_more : (place : ℕ) (job : Job) (jobs : List Job) → jobs_at place (job ∷ jobs) ≡ at_place place job + jobs_at place jobs
jobs_more place job jobs = sum_by-cons (at_place place) job jobs

-- none of the jobs is at a place
none_at : (place : ℕ) (jobs : List Job) → jobs_at place jobs ≡ 0 → AllByRecursion (λ (job : Job). place ≢ job.place) jobs
none_at place [] none = tt
none_at place (job ∷ jobs) none =
    let more = jobs_more place job jobs in (
      (λ same. let one = at_same place job (sym same) in absurd (omega (arith, none, more, one))),
      none_at place jobs (omega (arith, none, more)),
    )

pub others_elsewhere : (job : Job) (jobs : List Job) → jobs_at job.place (job ∷ jobs) ≤ 1 → AllByRecursion (λ (other : Job). job.place ≢ other.place) jobs
others_elsewhere job jobs once =
    let more = jobs_more job.place job jobs in
    let one = at_same job.place job refl in
    none_at job.place jobs (omega (arith, once, more, one))

pub once_behind : (job : Job) (jobs : List Job) → ((place : ℕ) → jobs_at place (job ∷ jobs) ≤ 1) → (place : ℕ) → jobs_at place jobs ≤ 1
once_behind job jobs once place = let more = jobs_more place job jobs in let h = once place in omega (arith, more, h)

-- jobs that all are before a place
none_from : (place : ℕ) (jobs : List Job) → AllByRecursion (λ (job : Job). job.place < place) jobs → jobs_at place jobs ≡ 0
none_from place [] below = refl
none_from place (job ∷ jobs) below =
    let more = jobs_more place job jobs in
    let b = below.0 in
    let here = at_other place job (λ e. omega (arith, b, e)) in
    let rest = none_from place jobs below.1 in
    omega (arith, more, here, rest)

-- ---- one after the other

-- the jobs of the tasks before a place
pub record AreSofar (direction : Direction) (tasks : List OpenTask) (high : ℤ) (jobs : List Job) (place : ℕ) : Type 0 where
  pub each : AllByRecursion (IsJobOf direction tasks high) jobs
  pub below : AllByRecursion (λ (job : Job). job.place < place) jobs
  pub once : (p : ℕ) → jobs_at p jobs ≤ 1

pub sofar_none : (direction : Direction) (tasks : List OpenTask) (high : ℤ) → AreSofar direction tasks high [] 0
sofar_none direction tasks high = record { each = tt; below = tt; once = λ p. omega arith }

further : (jobs : List Job) (place : ℕ) → AllByRecursion (λ (job : Job). job.place < place) jobs → AllByRecursion (λ (job : Job). job.place < place + 1) jobs
further jobs place below = all_each (λ (job : Job). job.place < place) (λ (job : Job). job.place < place + 1) jobs (λ job h. omega (arith, h)) below

pub sofar_same : (direction : Direction) (tasks : List OpenTask) (high : ℤ) (jobs : List Job) (place : ℕ) → AreSofar direction tasks high jobs place → AreSofar direction tasks high jobs (place + 1)
sofar_same direction tasks high jobs place h = record { each = h.each; below = further jobs place h.below; once = h.once }

place_of : (direction : Direction) (place : ℕ) (task : OpenTask) → (job_of direction place task).place ≡ place
place_of Forward place task = refl
place_of Backward place task = refl

once_more : (jobs : List Job) (job : Job) (place : ℕ) → job.place ≡ place → AllByRecursion (λ (job : Job). job.place < place) jobs → ((p : ℕ) → jobs_at p jobs ≤ 1) → (p : ℕ) → jobs_at p (jobs ++ job ∷ []) ≤ 1
once_more jobs job place at below once p =
    let more : jobs_at p (jobs ++ job ∷ []) ≡ jobs_at p jobs + at_place p job = sum_by_push (at_place p) jobs job in
    elim (cases_eq job.place p) [
      | inl same ↦
          let one = at_same p job same in
          let none = none_from p jobs (subst (λ (k : ℕ). AllByRecursion (λ (other : Job). other.place < k) jobs) (sym at ∙ same) below) in
          omega (arith, more, one, none)
      | inr other ↦ (let zero_here = at_other p job other in let h = once p in omega (arith, more, zero_here, h))
    ]

pub sofar_more : (direction : Direction) (tasks : List OpenTask) (high : ℤ) (jobs : List Job) (place : ℕ) (job : Job) (task : OpenTask) → AreSofar direction tasks high jobs place
    → job ≡ job_of direction place task → slice_get tasks place ≡ Some task → IsWide task high → AreSofar direction tasks high (jobs ++ job ∷ []) (place + 1)
sofar_more direction tasks high jobs place job task h is at wide =
    let here : job.place ≡ place = ap (λ (x : Job). x.place) is ∙ place_of direction place task in
    record {
      each = all_both (IsJobOf direction tasks high) jobs (job ∷ []) h.each (
        record {
          task = task;
          at = subst (λ (p : ℕ). slice_get tasks p ≡ Some task) (sym here) at;
          wide = wide;
          is = subst (λ (p : ℕ). job ≡ job_of direction p task) (sym here) is;
        },
        tt,
      );
      below = all_both (λ (x : Job). x.place < place + 1) jobs (job ∷ []) (further jobs place h.below) (omega (arith, here), tt);
      once = once_more jobs job place here h.below h.once;
    }

-- ---- in another order

pub in_order : (direction : Direction) (tasks : List OpenTask) (high : ℤ) (jobs others : List Job) (place : ℕ) → AreSofar direction tasks high jobs place → IsPermutation jobs others → AreJobs direction tasks high others
in_order direction tasks high jobs others place h moved = record {
  each = recursion_from_All (IsJobOf direction tasks high) others
      (All-permutation (IsJobOf direction tasks high) jobs others moved (All-from_recursion (IsJobOf direction tasks high) jobs h.each));
  once = λ p. (let same = sum_by-IsPermutation (at_place p) jobs others moved in let a = h.once p in omega (arith, same, a));
}
