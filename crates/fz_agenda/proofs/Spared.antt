-- Draining while the one that has just run stands aside.
use Rattle.std.proofs.Common.{◌≡◌, ◌≢◌, ◌⊎◌, inl, inr, get_or-set_same, get_or-set_other, ℕ, zero, suc, ◌<◌, List, [], ◌∷◌, ◌++◌, refl, sym, ◌∙◌, ap, subst, arith, length}
use Rattle.std.specs.Prelude.{ℤ, slice_get, slice_index, slice_set, Some}
use Rattle.std.specs.List.{AllByRecursion}
use Rattle.std.proofs.lemmas.List.{length-set}
use Rattle.fz_sets.proofs.Lists.{by_place, some_is}
use Rattle.fz_strength.specs.Sayings.{Saying, Differ, line_of}
use Rattle.fz_strength.specs.Promises.{RestsForGood}
use Rattle.fz_prop.specs.Stores.{Stored}
use Rattle.fz_agenda.specs.Agendas.{IsUnmarked, IsSettled}
use Rattle.fz_agenda.specs.Queues.{Lineup, queue_at, class_of, cost_at, IsGone, IsWoken, rested, lineup}
use Rattle.fz_agenda.specs.Wakes.{Waking, IsIndexedAt, IsIndexOf, IsCalled, IsDraining, IsDrainingBut}

-- ---- lists with another element at one place

set_same : {X : Type 0} (xs : List X) (i : ℕ) (y x : X) → slice_get (slice_set xs i y) i ≡ Some x → x ≡ y
set_same [] i y x is = absurd (cc (is))
set_same (a ∷ xs) zero y x is = sym (some_is y x is)
set_same (a ∷ xs) (suc i) y x is = set_same xs i y x is

set_other : {X : Type 0} (xs : List X) (i j : ℕ) (y : X) → j ≢ i → slice_get (slice_set xs i y) j ≡ slice_get xs j
set_other [] i j y ne = refl
set_other (a ∷ xs) zero zero y ne = absurd (ne refl)
set_other (a ∷ xs) zero (suc j) y ne = refl
set_other (a ∷ xs) (suc i) zero y ne = refl
set_other (a ∷ xs) (suc i) (suc j) y ne = set_other xs i j y (λ e. ne (ap suc e))

set_again : (xs : List ℕ) (i x y : ℕ) → slice_set (slice_set xs i x) i y ≡ slice_set xs i y
set_again [] i x y = refl
set_again (a ∷ xs) zero x y = refl
set_again (a ∷ xs) (suc i) x y = ap (λ (l : List ℕ). a ∷ l) (set_again xs i x y)

-- ---- in the place of what has just run stands what is always true

abbrev idler : Saying
idler = Differ []

no_place : (ds : List (List (ℤ × ℤ))) → line_of idler ds
no_place ds i j x y ne here there = absurd (cc (here))

abbrev with_idler : List Saying → ℕ → List Saying
with_idler sayings place = slice_set sayings place idler

idler_listed : (sayings : List Saying) (place : ℕ) (w : Waking) → IsIndexOf sayings w → IsIndexOf (with_idler sayings place) w
idler_listed sayings place w index = by_place (λ i. (saying : Saying) → slice_get (with_idler sayings place) i ≡ Some saying → IsIndexedAt w i saying) place
    (λ saying is. subst (λ (x : Saying). IsIndexedAt w place x) (sym (set_same sayings place idler saying is)) (record { steady = tt; watched = λ v t n left looks. absurd looks }))
    (λ i ne saying is. index i saying (sym (set_other sayings place i idler ne) ∙ is))

idler_settled : (sayings : List Saying) (place : ℕ) (states after : List ℕ) (s : Stored) → IsSettled sayings states s → after ≡ slice_set states place 2 → slice_index after place ≡ 2
    → IsSettled (with_idler sayings place) after s
idler_settled sayings place states after s settled at two =
    let there : (i : ℕ) → i ≢ place → slice_index after i ≡ slice_index states i = λ i ne. ap (λ (xs : List ℕ). slice_index xs i) at ∙ get_or-set_other states place i 2 0 ne in
    record {
      size = ap length at ∙ length-set states place 2 ∙ settled.size ∙ sym (length-set sayings place idler);
      idle = by_place (λ i. (saying : Saying) → slice_get (with_idler sayings place) i ≡ Some saying → slice_index after i ≡ 0 → IsUnmarked saying s → line_of saying s.doms) place
          (λ saying is idle un. absurd (omega (arith, two, idle)))
          (λ i ne saying is idle un. settled.idle i saying (sym (set_other sayings place i idler ne) ∙ is) (sym (there i ne) ∙ idle) un);
      gone = by_place (λ i. (saying : Saying) → slice_get (with_idler sayings place) i ≡ Some saying → slice_index after i ≡ 2 → RestsForGood saying s.doms) place
          (λ saying is gone. subst (λ (x : Saying). RestsForGood x s.doms) (sym (set_same sayings place idler saying is)) (λ es domains narrower. no_place es))
          (λ i ne saying is gone. settled.gone i saying (sym (set_other sayings place i idler ne) ∙ is) (sym (there i ne) ∙ gone));
    }

-- the one that stood aside comes back, since its line holds
back_settled : (sayings : List Saying) (place : ℕ) (saying : Saying) (states after : List ℕ) (s : Stored) → IsSettled (with_idler sayings place) states s → slice_get sayings place ≡ Some saying
    → line_of saying s.doms → after ≡ slice_set states place 0 → place < length states → IsSettled sayings after s
back_settled sayings place saying states after s settled known rests at within =
    let here : slice_index after place ≡ 0 = ap (λ (xs : List ℕ). slice_index xs place) at ∙ get_or-set_same states place 0 0 within in
    let there : (i : ℕ) → i ≢ place → slice_index after i ≡ slice_index states i = λ i ne. ap (λ (xs : List ℕ). slice_index xs i) at ∙ get_or-set_other states place i 0 0 ne in
    record {
      size = ap length at ∙ length-set states place 0 ∙ settled.size ∙ length-set sayings place idler;
      idle = by_place (λ i. (x : Saying) → slice_get sayings i ≡ Some x → slice_index after i ≡ 0 → IsUnmarked x s → line_of x s.doms) place
          (λ x is idle un. subst (λ (y : Saying). line_of y s.doms) (some_is saying x (sym known ∙ is)) rests)
          (λ i ne x is idle un. settled.idle i x (set_other sayings place i idler ne ∙ is) (sym (there i ne) ∙ idle) un);
      gone = by_place (λ i. (x : Saying) → slice_get sayings i ≡ Some x → slice_index after i ≡ 2 → RestsForGood x s.doms) place
          (λ x is gone. absurd (omega (arith, here, gone)))
          (λ i ne x is gone. settled.gone i x (set_other sayings place i idler ne ∙ is) (sym (there i ne) ∙ gone));
    }

-- ---- draining

still_gone : (who : Type 0) (x y : ℕ) → (y ≡ x) ⊎ ((x ≡ 0) × (y ≡ 1) × who) → x ≡ 2 → y ≡ 2
still_gone who x y (inl same) two = same ∙ two
still_gone who x y (inr woken) two = absurd (omega (arith, woken.0, two))

-- from l the first goes, which leaves k; draining leaves j; and the first comes back, which leaves m
pub record IsAside (place : ℕ) (w : Waking) (s : Stored) (l k : Lineup) (t : Stored) (j m : Lineup) : Type 0 where
  pub within : place < length l.states
  pub aside : IsGone place l k
  pub draining : IsDraining w s k t j
  pub back : m ≡ lineup (slice_set j.states place 0) j.queues

gone_aside : (place : ℕ) (l k : Lineup) → place < length l.states → IsGone place l k → slice_index k.states place ≡ 2
gone_aside place l k within aside = ap (λ (xs : List ℕ). slice_index xs place) aside.states ∙ get_or-set_same l.states place 2 0 within

pub gone_after : (place : ℕ) (w : Waking) (s t : Stored) (l k j : Lineup) → place < length l.states → IsGone place l k → IsDraining w s k t j → slice_index j.states place ≡ 2
gone_after place w s t l k j within aside draining =
    still_gone (IsCalled w s place) (slice_index k.states place) (slice_index j.states place) (draining.woken.each place) (gone_aside place l k within aside)

but_this : (who : Type 0) (x y i place : ℕ) → i ≢ place → (y ≡ x) ⊎ ((x ≡ 0) × (y ≡ 1) × who) → (y ≡ x) ⊎ ((x ≡ 0) × (y ≡ 1) × (who × (i ≢ place)))
but_this who x y i place ne (inl same) = inl same
but_this who x y i place ne (inr woken) = inr (woken.0, woken.1, (woken.2, ne))

others_woken : (place : ℕ) (w : Waking) (s t : Stored) (l k j m : Lineup) → IsAside place w s l k t j m → IsWoken (λ (i : ℕ). IsCalled w s i × (i ≢ place)) w.costs (rested place l) m
others_woken place w s t l k j m c =
    let woken = c.draining.woken in
    let before : (i : ℕ) → i ≢ place → slice_index k.states i ≡ slice_index (slice_set l.states place 0) i =
    λ i ne. ap (λ (xs : List ℕ). slice_index xs i) c.aside.states ∙ get_or-set_other l.states place i 2 0 ne ∙ sym (get_or-set_other l.states place i 0 0 ne) in
    let size : length j.states ≡ length l.states = woken.size ∙ ap length c.aside.states ∙ length-set l.states place 2 in
    subst (λ (x : Lineup). IsWoken (λ (i : ℕ). IsCalled w s i × (i ≢ place)) w.costs (rested place l) x) (sym c.back) (record {
      size = length-set j.states place 0 ∙ size ∙ sym (length-set l.states place 0);
      each = by_place (λ i. (slice_index (slice_set j.states place 0) i ≡ slice_index (slice_set l.states place 0) i)
          ⊎ ((slice_index (slice_set l.states place 0) i ≡ 0) × (slice_index (slice_set j.states place 0) i ≡ 1) × (IsCalled w s i × (i ≢ place)))) place
          (inl (get_or-set_same j.states place 0 0 (omega (arith, c.within, size)) ∙ sym (get_or-set_same l.states place 0 0 c.within)))
          (λ i ne. but_this (IsCalled w s i) (slice_index (slice_set l.states place 0) i) (slice_index (slice_set j.states place 0) i) i place ne
          (subst (λ (x : ℕ). (slice_index (slice_set j.states place 0) i ≡ x) ⊎ ((x ≡ 0) × (slice_index (slice_set j.states place 0) i ≡ 1) × IsCalled w s i)) (before i ne)
          (subst (λ (y : ℕ). (y ≡ slice_index k.states i) ⊎ ((slice_index k.states i ≡ 0) × (y ≡ 1) × IsCalled w s i)) (sym (get_or-set_other j.states place i 0 0 ne)) (woken.each i))));
      queues = subst (λ (qs : List (List ℕ)). (class : ℕ) → (more : List ℕ) × (queue_at j class ≡ queue_at (record { states = k.states; queues = qs }) class ++ more) × AllByRecursion (λ (i : ℕ). class_of (cost_at w.costs i) ≡ class) more)
          c.aside.queues woken.queues;
    })

pub all_but : (place : ℕ) (w : Waking) (s t : Stored) (l k j m : Lineup) → IsAside place w s l k t j m → IsDrainingBut place w s l t m
all_but place w s t l k j m c =
    let draining = c.draining in
    let two : slice_index k.states place ≡ 2 = gone_aside place l k c.within c.aside in
    let size : length j.states ≡ length l.states = draining.woken.size ∙ ap length c.aside.states ∙ length-set l.states place 2 in
    record {
      store = draining.store;
      doms = draining.doms;
      woken = others_woken place w s t l k j m c;
      settled = λ sayings saying index settled known rests.
          back_settled sayings place saying j.states m.states t
          (draining.settled (with_idler sayings place) (idler_listed sayings place w index) (idler_settled sayings place l.states k.states s settled c.aside.states two))
          known (subst (λ (ds : List (List (ℤ × ℤ))). line_of saying ds) (sym draining.doms) rests) (ap (λ (x : Lineup). x.states) c.back) (omega (arith, c.within, size));
      still = λ none.
          let same = draining.still none in
          let states : slice_set j.states place 0 ≡ slice_set l.states place 0 =
          ap (λ (x : Lineup). slice_set x.states place 0) same.1 ∙ ap (λ (xs : List ℕ). slice_set xs place 0) c.aside.states ∙ set_again l.states place 2 0 in
          let queues : j.queues ≡ (rested place l).queues = ap (λ (x : Lineup). x.queues) same.1 ∙ c.aside.queues in
          (same.0, c.back ∙ ap (λ (xs : List ℕ). lineup xs j.queues) states ∙ ap (λ (qs : List (List ℕ)). lineup (slice_set l.states place 0) qs) queues);
    }
