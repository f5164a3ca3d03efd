-- One step after the waking of those that wait for what a store lists.
use Rattle.std.proofs.Common.{◌≡◌, ◌∙◌, ℕ, ◌+◌, ◌*◌, ◌<◌, ◌≤◌, List, ap, subst, arith, length}
use Rattle.std.specs.Prelude.{ℤ}
use Rattle.fz_spec.specs.Instance.{Instance}
use Rattle.fz_strength.specs.Domains.{room}
use Rattle.fz_prop.specs.Stores.{Stored}
use Rattle.fz_agenda.specs.Queues.{Lineup, queued}
use Rattle.fz_agenda.specs.Wakes.{Waking, IsDraining}
use Rattle.fz_engine.specs.declared.engine.Progress.{Progress}
use Rattle.fz_engine.specs.declared.engine.Progress.TheVariants.{Rested, Failed, Going}
use Rattle.fz_engine.specs.Runs.{AreNeverTrue, work}
use Rattle.fz_engine.specs.Steps.{IsProgress, IsAdvance, most_work}
use Rattle.fz_engine.proofs.Running.{queued_few}

drained_work : (w : Waking) (s t : Stored) (l m : Lineup) → IsDraining w s l t m → work t m.states ≤ most_work s l.states
drained_work w s t l m draining =
    let size : length m.states ≡ length l.states = draining.woken.size in
    let product : room t.doms * (length m.states + 1) ≡ room s.doms * (length l.states + 1) = ap (λ (r : ℕ). r * (length m.states + 1)) (ap room draining.doms) ∙ ap (λ (n : ℕ). room s.doms * (n + 1)) size in
    let few : queued m.states ≤ length m.states = queued_few m.states in
    omega (arith, size, product, few)

pub advanced : (w : Waking) (s t u : Stored) (l m : Lineup) (after : List ℕ) (i : Instance) (p : Progress) → IsDraining w s l t m → IsProgress p i t m.states u after → IsAdvance p i s l.states u after
advanced w s t u l m after i Rested draining progress = (progress.0 ∙ draining.doms, progress.1)
advanced w s t u l m after i Failed draining never = subst (λ (ds : List (List (ℤ × ℤ))). AreNeverTrue i.constraints ds) draining.doms never
advanced w s t u l m after i Going draining progress =
    let less : work u after < work t m.states = progress.1 in
    let most : work t m.states ≤ most_work s l.states = drained_work w s t l m draining in (
      progress.0,
      omega (arith, less, most),
      λ drained.
          let still = draining.still drained.none in
          subst (λ (x : Lineup). work u after < work s x.states) still.1 (subst (λ (x : Stored). work u after < work x m.states) still.0 less),
    )
