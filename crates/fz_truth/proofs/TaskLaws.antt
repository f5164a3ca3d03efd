-- The tasks of three lists, place by place, and their load.
use Rattle.std.proofs.Common.{◌≡◌, ℕ, ◌+◌, ◌*◌, ◌^◌, ◌<◌, ◌≤◌, zero, suc, min, ℤ, pos, List, [], ◌∷◌, map, take, length, get_or, arith, refl, sym, ap, ◌∙◌, add-one}
use Rattle.std.specs.Prelude.{◌+ℤ◌, ◌<ℤ◌, ◌≤ℤ◌}
use Rattle.std.specs.Int.{w128}
use Rattle.std.specs.Int.RustNames.{FitsSigned, unsigned_abs}
use Rattle.std.proofs.lemmas.Int.{ints, fits_signed_from_abs}
use Rattle.fz_spec.specs.Truth.{Task, tasks_of, load_at, usage_at}
use Rattle.fz_truth.proofs.Sizes.{near_more}

pub length_of_tasks : {X : Type 0} (f : X → ℤ) (ss ds us : List X) → length (tasks_of (map f ss) (map f ds) (map f us)) ≡ min (min (length ss) (length ds)) (length us)
length_of_tasks f [] ds us = grind arith
length_of_tasks f (s ∷ ss) [] us = grind arith
length_of_tasks f (s ∷ ss) (d ∷ ds) [] = grind arith
length_of_tasks f (s ∷ ss) (d ∷ ds) (u ∷ us) = let e = length_of_tasks f ss ds us in grind (arith, e)

pub task_here : {X : Type 0} (f : X → ℤ) (ss ds us : List X) (i : ℕ) (s d u : X) (e : Task) → i < length ss → i < length ds → i < length us
    → record { start = f (get_or ss i s); duration = f (get_or ds i d); usage = f (get_or us i u) } ≡ get_or (tasks_of (map f ss) (map f ds) (map f us)) i e
task_here f [] ds us i s d u e h k l = absurd (omega (arith, h))
task_here f (x ∷ ss) [] us i s d u e h k l = absurd (omega (arith, k))
task_here f (x ∷ ss) (y ∷ ds) [] i s d u e h k l = absurd (omega (arith, l))
task_here f (x ∷ ss) (y ∷ ds) (z ∷ us) zero s d u e h k l = refl
task_here f (x ∷ ss) (y ∷ ds) (z ∷ us) (suc i) s d u e h k l = task_here f ss ds us i s d u e (omega (arith, h)) (omega (arith, k)) (omega (arith, l))

-- after its end a task uses nothing
pub ended : (task : Task) (time : ℤ) → (task.start +ℤ task.duration) ≤ℤ time → pos 0 ≡ usage_at time task
ended task time h = grind (arith, ints)

pub same_task : (s t d e u v : ℤ) → s ≡ t → d ≡ e → u ≡ v → (let a : Task = record { start = s; duration = d; usage = u } in a) ≡ (let b : Task = record { start = t; duration = e; usage = v } in b)
same_task s t d e u v p q r = λ i. record { start = p i; duration = q i; usage = r i }

abbrev pub IsWithin : List Task → ℤ → Task → Type 0
IsWithin tasks bound task = pos 0 <ℤ task.duration → load_at task.start tasks ≤ℤ bound

-- what the first n tasks use at a time, and how far that is from 0 at most
pub record IsLoaded (time : ℤ) (tasks : List Task) (n : ℕ) (load : ℤ) : Type 0 where
  pub is : load ≡ load_at time (take n tasks)
  pub near : unsigned_abs load ≤ n * 2 ^ 31

one_more : (time : ℤ) (tasks : List Task) (n : ℕ) (d : Task) → n < length tasks → load_at time (take (suc n) tasks) ≡ load_at time (take n tasks) +ℤ usage_at time (get_or tasks n d)
one_more time [] n d h = absurd (omega (arith, h))
one_more time (task ∷ tasks) zero d h = omega (arith, ints)
one_more time (task ∷ tasks) (suc n) d h = let e = one_more time tasks n d (omega (arith, h)) in omega (arith, ints, e)

pub load_fits : (n : ℕ) (a b : ℤ) → unsigned_abs a ≤ n * 2 ^ 31 → unsigned_abs b ≤ 2 ^ 31 → n < 2 ^ 64 → FitsSigned w128 (a +ℤ b)
load_fits n a b h k l = fits_signed_from_abs w128 (a +ℤ b) (let m = near_more (2 ^ 31) n a b h k in omega (arith, m, l))

pub load_more : (time : ℤ) (tasks : List Task) (n : ℕ) (load used : ℤ) (task : Task) → IsLoaded time tasks n load → n < length tasks → task ≡ get_or tasks n task → used ≡ usage_at time task → unsigned_abs used ≤ 2 ^ 31
    → IsLoaded time tasks (n + 1) (load +ℤ used)
load_more time tasks n load used task so_far h at is near = record {
  is = rw add-one (let e = one_more time tasks n task h in ap (λ u. u +ℤ used) so_far.is ∙ ap (λ u. load_at time (take n tasks) +ℤ u) (is ∙ ap (usage_at time) at) ∙ sym e);
  near = near_more (2 ^ 31) n load used so_far.near near;
}
