-- Waking those that look at a variable now, one after another.
use Rattle.std.proofs.Common.{◌≡◌, inl, inr, ℕ, zero, suc, ◌+◌, ◌<◌, ◌≤◌, List, [], ◌∷◌, subst, arith, length, take}
use Rattle.std.specs.Prelude.{ℤ, slice_index, slice_index_or}
use Rattle.std.specs.List.{AllByRecursion}
use Rattle.fz_strength.specs.declared.cost.Cost.{Cost}
use Rattle.fz_strength.specs.Domains.{IsTermOf}
use Rattle.fz_agenda.specs.declared.watches.Watch.{Watch}
use Rattle.fz_agenda.specs.Queues.{Lineup, IsWoken}
use Rattle.fz_agenda.specs.Wakes.{Waking, watches_at, AreWatchersAwake, AreWatchesOf, Heeds, IsWatching, WaitsFor}
use Rattle.fz_agenda.specs.Watches.{IsSeen}
use Rattle.fz_agenda.proofs.Woken.{woken_twice, woken_by_more, still_awake}

-- it is this one, which looks now
abbrev pub LooksNow : List (List (ℤ × ℤ)) → Watch → ℕ → Type 0
LooksNow ds e i = (e.place ≡ i) × IsSeen e.while_left ds e.term e.number

watching_at : (ds : List (List (ℤ × ℤ))) (es : List Watch) (k i : ℕ) (e : Watch) → k < length es → LooksNow ds (slice_index_or es k e) i → IsWatching ds es i
watching_at ds [] k i e within now = absurd (omega (arith, within))
watching_at ds (x ∷ es) zero i e within now = inl now
watching_at ds (x ∷ es) (suc k) i e within now = inr (watching_at ds es k i e (omega (arith, within)) now)

pub watching_woken : (ds : List (List (ℤ × ℤ))) (es : List Watch) (k : ℕ) (e : Watch) (costs : List Cost) (l m o : Lineup) → k < length es → IsWoken (IsWatching ds es) costs l m
    → IsWoken (LooksNow ds (slice_index_or es k e)) costs m o → IsWoken (IsWatching ds es) costs l o
watching_woken ds es k e costs l m o within first second =
    let here = LooksNow ds (slice_index_or es k e) in
    woken_twice (IsWatching ds es) costs l m o first (woken_by_more here (IsWatching ds es) costs m o (λ i now. watching_at ds es k i e within now) second)

abbrev IsAwakeIn : List (List (ℤ × ℤ)) → List ℕ → Watch → Type 0
IsAwakeIn ds states e = IsSeen e.while_left ds e.term e.number → e.place < length states → slice_index states e.place ≡ 0 → ⊥

all_next : (P : Watch → Type 0) (es : List Watch) (k : ℕ) (e : Watch) → k < length es → AllByRecursion P (take k es) → P (slice_index_or es k e) → AllByRecursion P (take (suc k) es)
all_next P [] k e within before here = absurd (omega (arith, within))
all_next P (x ∷ es) zero e within before here = (here, tt)
all_next P (x ∷ es) (suc k) e within before here = (before.0, all_next P es k e (omega (arith, within)) before.1 here)

pub still_watching : (ds : List (List (ℤ × ℤ))) (may : ℕ → Type 0) (costs : List Cost) (l m : Lineup) (es : List Watch) → IsWoken may costs l m → AreWatchersAwake ds l.states es → AreWatchersAwake ds m.states es
still_watching ds may costs l m [] woken all = tt
still_watching ds may costs l m (e ∷ es) woken all = ((λ left. still_awake may costs l m e.place woken (all.0 left)), still_watching ds may costs l m es woken all.1)

pub watching_awake : (ds : List (List (ℤ × ℤ))) (es : List Watch) (k : ℕ) (e : Watch) (costs : List Cost) (m o : Lineup) → k < length es → IsWoken (LooksNow ds (slice_index_or es k e)) costs m o
    → AreWatchersAwake ds m.states (take k es) → IsAwakeIn ds o.states (slice_index_or es k e) → AreWatchersAwake ds o.states (take (k + 1) es)
watching_awake ds es k e costs m o within woken before here =
    let next : suc k ≡ k + 1 = omega arith in
    let still = still_watching ds (LooksNow ds (slice_index_or es k e)) costs m o (take k es) woken before in
    subst (λ (n : ℕ). AreWatchersAwake ds o.states (take n es)) next (all_next (IsAwakeIn ds o.states) es k e within still here)

-- those that look at a variable now heed its change, whatever it is
pub watching_heeds : (w : Waking) (ds : List (List (ℤ × ℤ))) (v n : ℕ) (es : List Watch) (costs : List Cost) (l m : Lineup) → es ≡ watches_at w v → costs ≡ w.costs → 1 ≤ n → IsWoken (IsWatching ds es) costs l m
    → IsWoken (Heeds w ds v n) w.costs l m
watching_heeds w ds v n es costs l m at is some woken =
    subst (λ (cs : List Cost). IsWoken (Heeds w ds v n) cs l m) is
    (woken_by_more (IsWatching ds es) (Heeds w ds v n) costs l m (λ i now. inr (some, subst (λ (xs : List Watch). IsWatching ds xs i) at now)) woken)

pub then_waiting : (w : Waking) (ds : List (List (ℤ × ℤ))) (v n : ℕ) (l m o : Lineup) → IsWoken (Heeds w ds v n) w.costs l m → IsWoken (WaitsFor w v n) w.costs m o → IsWoken (Heeds w ds v n) w.costs l o
then_waiting w ds v n l m o first second = woken_twice (Heeds w ds v n) w.costs l m o first (woken_by_more (WaitsFor w v n) (Heeds w ds v n) w.costs m o (λ i waits. inl waits) second)

pub terms_at : (n : ℕ) (es : List Watch) (k : ℕ) (e : Watch) → AreWatchesOf n es → k < length es → IsTermOf n (slice_index_or es k e).term
terms_at n [] k e all within = absurd (omega (arith, within))
terms_at n (x ∷ es) zero e all within = all.0
terms_at n (x ∷ es) (suc k) e all within = terms_at n es k e all.1 (omega (arith, within))
