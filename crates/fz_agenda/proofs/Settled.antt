-- What is settled lasts.
use Rattle.std.proofs.Common.{◌≡◌, ◌≢◌, get_or-set_same, get_or-set_other, ℕ, ◌<◌, List, [], ◌∷◌, refl, sym, ◌∙◌, subst, arith, length, inl, inr}
use Rattle.std.specs.Prelude.{slice_get, slice_index, slice_set, Some}
use Rattle.std.specs.List.{AllByRecursion}
use Rattle.std.proofs.lemmas.Bool.{cases_eq}
use Rattle.std.proofs.lemmas.List.{length-set}
use Rattle.fz_sets.proofs.Lists.{by_place}
use Rattle.fz_strength.specs.declared.event.Event.{Event}
use Rattle.fz_strength.specs.declared.event.Event.TheVariants.{Any, Bound, Fixed}
use Rattle.fz_strength.specs.Events.{Wait, level, AreQuiet}
use Rattle.fz_strength.specs.Sayings.{Saying, line_of}
use Rattle.fz_strength.specs.Promises.{RestsForGood}
use Rattle.fz_prop.specs.Stores.{Stored, Shrinks, mark_at, without_first}
use Rattle.fz_prop.proofs.Twice.{narrower_twice}
use Rattle.fz_agenda.specs.Agendas.{AreUnmarked, IsUnmarked, IsUnmarkedAt, IsSettled, SettledLasts, AllRestAtRest, MayBeIdle, MayBeGone, MayBeQueued, MayBeTaken}
use Rattle.fz_agenda.specs.Watches.{Looks, steady_waits}
use Rattle.fz_agenda.proofs.Watched.{seen_later, watched_kept}

unmarked_before : (ws : List Wait) (s t : Stored) → Shrinks s t → AreUnmarked ws t → AreUnmarked ws s
unmarked_before [] s t shrinks un = tt
unmarked_before (w ∷ ws) s t shrinks un = (omega (arith, shrinks.marks_grow w.variable, un.0), unmarked_before ws s t shrinks un.1)

quiet_since : (ws : List Wait) (s t : Stored) → Shrinks s t → AreUnmarked ws t → AreQuiet ws s.doms t.doms
quiet_since [] s t shrinks un = tt
quiet_since (w ∷ ws) s t shrinks un = (shrinks.marks_tell w.variable w.event un.0, quiet_since ws s t shrinks un.1)

-- what shows no change now showed none before
all_unmarked_before : (saying : Saying) (s t : Stored) → Shrinks s t → IsUnmarked saying t → IsUnmarked saying s
all_unmarked_before saying s t shrinks un = record {
  steady = unmarked_before (steady_waits saying) s t shrinks un.steady;
  watched = λ v u n left looks seen.
      let later = seen_later saying v u n left looks s.doms t.doms shrinks.narrower (quiet_since (steady_waits saying) s t shrinks un.steady) seen in
      let none = un.watched v u n left looks later in
      omega (arith, shrinks.marks_grow v, none);
}

pub settled_lasts : SettledLasts
settled_lasts sayings states s t store shrinks settled = record {
  size = settled.size;
  idle = λ i saying is idle un. watched_kept saying s.doms t.doms store.domains shrinks.narrower (quiet_since (steady_waits saying) s t shrinks un.steady)
      (λ v u n left looks seen. let none = un.watched v u n left looks seen in shrinks.marks_tell v Any (omega (arith, none)))
      (settled.idle i saying is idle (all_unmarked_before saying s t shrinks un));
  gone = λ i saying is gone es domains narrower. settled.gone i saying is gone es domains (narrower_twice s.doms t.doms es shrinks.narrower narrower);
}

some_level : (event : Event) → 0 < level event
some_level Any = omega arith
some_level Bound = omega arith
some_level Fixed = omega arith

all_unmarked : (ws : List Wait) (s : Stored) → ((v : ℕ) → mark_at s v ≡ 0) → AreUnmarked ws s
all_unmarked [] s none = tt
all_unmarked (w ∷ ws) s none = (omega (arith, none w.variable, some_level w.event), all_unmarked ws s none)

pub all_rest_at_rest : AllRestAtRest
all_rest_at_rest sayings states s store none free settled i saying is = elim (free i) [
  | inl idle ↦ settled.idle i saying is idle (record { steady = all_unmarked (steady_waits saying) s none; watched = λ v t n left looks seen. none v })
  | inr gone ↦ settled.gone i saying is gone s.doms store.domains (record { size = refl; members = λ v x m. m })
]

-- ---- what happens to a propagator

one_at : (sayings : List Saying) (i : ℕ) (saying d : Saying) → slice_get sayings i ≡ Some saying → slice_get sayings i ≡ Some d → saying ≡ d
one_at sayings i saying d p q = let e : Some saying ≡ Some d = sym p ∙ q in cc

-- the state of one is set to what it may be
set_state : (sayings : List Saying) (states : List ℕ) (s : Stored) (i k : ℕ) → IsSettled sayings states s → i < length states
    → ((saying : Saying) → slice_get sayings i ≡ Some saying → k ≡ 0 → line_of saying s.doms) → ((saying : Saying) → slice_get sayings i ≡ Some saying → k ≡ 2 → RestsForGood saying s.doms)
    → IsSettled sayings (slice_set states i k) s
set_state sayings states s i k settled within idle gone =
    let here : slice_index (slice_set states i k) i ≡ k = get_or-set_same states i k 0 within in
    let there : (j : ℕ) → j ≢ i → slice_index (slice_set states i k) j ≡ slice_index states j = λ j ne. get_or-set_other states i j k 0 ne in
    record {
      size = length-set states i k ∙ settled.size;
      idle = by_place (λ j. (saying : Saying) → slice_get sayings j ≡ Some saying → slice_index (slice_set states i k) j ≡ 0 → IsUnmarked saying s → line_of saying s.doms) i
          (λ saying is state un. idle saying is (sym here ∙ state))
          (λ j ne saying is state un. settled.idle j saying is (sym (there j ne) ∙ state) un);
      gone = by_place (λ j. (saying : Saying) → slice_get sayings j ≡ Some saying → slice_index (slice_set states i k) j ≡ 2 → RestsForGood saying s.doms) i
          (λ saying is state. gone saying is (sym here ∙ state))
          (λ j ne saying is state. settled.gone j saying is (sym (there j ne) ∙ state));
    }

pub may_be_idle : MayBeIdle
may_be_idle sayings states s i saying settled at within rests =
    set_state sayings states s i 0 settled within (λ d is zero. subst (λ (e : Saying). line_of e s.doms) (one_at sayings i saying d at is) rests) (λ d is two. absurd (omega (arith, two)))

pub may_be_gone : MayBeGone
may_be_gone sayings states s i saying settled at within rests =
    set_state sayings states s i 2 settled within (λ d is zero. absurd (omega (arith, zero))) (λ d is two. subst (λ (e : Saying). RestsForGood e s.doms) (one_at sayings i saying d at is) rests)

pub may_be_queued : MayBeQueued
may_be_queued sayings states s i settled within =
    set_state sayings states s i 1 settled within (λ d is zero. absurd (omega (arith, zero))) (λ d is two. absurd (omega (arith, two)))

unmarked_there : (s : Stored) (v u : ℕ) (rest : List ℕ) → u ≢ v → mark_at (without_first s v rest) u ≡ mark_at s u
unmarked_there s v u rest ne = get_or-set_other s.marks v u 0 0 ne

still_unmarked : (ws : List Wait) (s : Stored) (v : ℕ) (rest : List ℕ) → AllByRecursion (λ (w : Wait). w.variable ≡ v → mark_at s v < level w.event) ws
    → AreUnmarked ws (without_first s v rest) → AreUnmarked ws s
still_unmarked [] s v rest woken un = tt
still_unmarked (w ∷ ws) s v rest woken un = (
  (elim (cases_eq w.variable v) [
    | inl e ↦ subst (λ (u : ℕ). mark_at s u < level w.event) (sym e) (woken.0 e)
    | inr ne ↦ subst (λ (n : ℕ). n < level w.event) (unmarked_there s v w.variable rest ne) un.0
  ]),
  still_unmarked ws s v rest woken.1 un.1,
)

all_still_unmarked : (saying : Saying) (s : Stored) (v : ℕ) (rest : List ℕ) → IsUnmarkedAt saying s v → IsUnmarked saying (without_first s v rest) → IsUnmarked saying s
all_still_unmarked saying s v rest woken un = record {
  steady = still_unmarked (steady_waits saying) s v rest woken.steady un.steady;
  watched = λ u t n left looks seen. elim (cases_eq u v) [
    | inl e ↦ subst (λ (x : ℕ). mark_at s x ≡ 0) (sym e) (woken.watched t n left (subst (λ (x : ℕ). Looks saying x t n left) e looks) seen)
    | inr ne ↦ sym (unmarked_there s v u rest ne) ∙ un.watched u t n left looks seen
  ];
}

pub may_be_taken : MayBeTaken
may_be_taken sayings states s v rest settled woken = record {
  size = settled.size;
  idle = λ i saying is idle un. settled.idle i saying is idle (all_still_unmarked saying s v rest (woken i saying is idle) un);
  gone = settled.gone;
}
