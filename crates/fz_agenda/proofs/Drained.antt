-- Draining keeps what is settled.
use Rattle.std.proofs.Common.{◌≡◌, ◌⊎◌, inl, inr, ℕ, zero, suc, ◌<◌, ◌≤◌, List, [], ◌∷◌, refl, sym, ◌∙◌, ap, subst, arith, length}
use Rattle.std.specs.Prelude.{Bool, ℤ, slice_index, slice_index_or, slice_set}
use Rattle.std.specs.List.{AllByRecursion}
use Rattle.std.proofs.lemmas.Bool.{cases_lt}
use Rattle.std.proofs.lemmas.Option.{slice_get_within}
use Rattle.fz_spec.specs.declared.term.Term.{Term}
use Rattle.fz_spec.specs.Truth.{SomeByRecursion}
use Rattle.fz_strength.specs.declared.event.Event.{Event}
use Rattle.fz_strength.specs.declared.event.Event.TheVariants.{Any, Bound, Fixed}
use Rattle.fz_strength.specs.Events.{Wait, level}
use Rattle.fz_strength.specs.Sayings.{Saying}
use Rattle.fz_prop.specs.Stores.{Stored, IsStore, IsListed, IsTaken, mark_at, without_first}
use Rattle.fz_agenda.specs.declared.watches.Watch.{Watch}
use Rattle.fz_agenda.specs.Agendas.{IsSettled, AreWoken}
use Rattle.fz_agenda.specs.Queues.{Lineup, IsWoken}
use Rattle.fz_agenda.specs.Wakes.{Waking, waiting_at, watches_at, watch, IsListedAt, IsIndexOf, HaveSize, HasVariable, Extends, AllAwake, AreWatchersAwake, Heeds, IsCalled, IsDraining}
use Rattle.fz_agenda.specs.Watches.{IsSeen, steady_waits}
use Rattle.fz_agenda.proofs.Settled.{may_be_taken}
use Rattle.fz_agenda.proofs.Waking.{later}
use Rattle.fz_agenda.proofs.Woken.{one_awake, woken_twice, woken_by_more, settled_woken}

-- an idle one waits for no change up to the level
above : (w : Waking) (event : Event) (states : List ℕ) (v n i : ℕ) → AllAwake w v n states → IsListed (waiting_at w event v) i → i < length states → slice_index states i ≡ 0 → n < level event
above w Any states v n i awake listed within idle = elim (cases_lt n 1) [
  | inl below ↦ below
  | inr at ↦ absurd (one_awake states (waiting_at w Any v) i (awake.any at) listed within idle)
]
above w Bound states v n i awake listed within idle = elim (cases_lt n 2) [
  | inl below ↦ below
  | inr at ↦ absurd (one_awake states (waiting_at w Bound v) i (awake.bound at) listed within idle)
]
above w Fixed states v n i awake listed within idle = elim (cases_lt n 3) [
  | inl below ↦ below
  | inr at ↦ absurd (one_awake states (waiting_at w Fixed v) i (awake.fixed at) listed within idle)
]

all_above : (w : Waking) (ws : List Wait) (states : List ℕ) (v n i : ℕ) → AllAwake w v n states → IsListedAt w i ws → i < length states → slice_index states i ≡ 0
    → AllByRecursion (λ (x : Wait). x.variable ≡ v → n < level x.event) ws
all_above w [] states v n i awake listed within idle = tt
all_above w (x ∷ ws) states v n i awake listed within idle = (
  (λ e. above w x.event states v n i awake (subst (λ (u : ℕ). IsListed (waiting_at w x.event u) i) e listed.0) within idle),
  all_above w ws states v n i awake listed.1 within idle,
)

-- one that looks at a variable now isn't idle
looking : (ds : List (List (ℤ × ℤ))) (states : List ℕ) (es : List Watch) (i : ℕ) (t : Term) (n : ℤ) (sign : Bool) → AreWatchersAwake ds states es → SomeByRecursion (λ (e : Watch). e ≡ watch i t n sign) es → IsSeen sign ds t n
    → i < length states → slice_index states i ≡ 0 → ⊥
looking ds states [] i t n sign awake some left within idle = absurd some
looking ds states (e ∷ es) i t n sign awake (inl same) left within idle =
    subst (λ (x : Watch). IsSeen x.while_left ds x.term x.number → x.place < length states → slice_index states x.place ≡ 0 → ⊥) same awake.0 left within idle
looking ds states (e ∷ es) i t n sign awake (inr more) left within idle = looking ds states es i t n sign awake.1 more left within idle

unmarked : (n : ℕ) (A : Type 0) → (1 ≤ n → A) → (A → ⊥) → n ≡ 0
unmarked zero A f not = refl
unmarked (suc n) A f not = absurd (not (f (omega arith)))

are_woken : (sayings : List Saying) (w : Waking) (states : List ℕ) (s : Stored) (v : ℕ) → IsIndexOf sayings w → length states ≡ length sayings → AllAwake w v (mark_at s v) states
    → (1 ≤ mark_at s v → AreWatchersAwake s.doms states (watches_at w v)) → AreWoken sayings states s v
are_woken sayings w states s v index size awake watching = λ i saying is idle.
    let within : i < length states = omega (arith, size, slice_get_within sayings i saying is) in
    let at = index i saying is in
    record {
      steady = all_above w (steady_waits saying) states v (mark_at s v) i awake at.steady within idle;
      watched = λ t n sign looks seen. elim (at.watched v t n sign looks) [
        | inl one ↦ unmarked (mark_at s v) (AreWatchersAwake s.doms states (watches_at w v)) watching (λ all. looking s.doms states (watches_at w v) i t n sign all one seen within idle)
        | inr listed ↦ (let low : mark_at s v < 1 = above w Any states v (mark_at s v) i awake listed within idle in omega (arith, low))
      ];
    }

-- what was drained so far, and no mark has risen
pub record IsUnderWay (w : Waking) (s : Stored) (l : Lineup) (t : Stored) (m : Lineup) : Type 0 where
  pub draining : IsDraining w s l t m
  pub marks : (v : ℕ) → mark_at t v ≤ mark_at s v

something : (s t : Stored) (v : ℕ) (rest : List ℕ) → t.changed ≡ v ∷ rest → s.changed ≡ [] → t ≡ s → ⊥
something s t v rest is none same = let e : v ∷ rest ≡ [] = sym is ∙ (ap (λ (u : Stored). u.changed) same ∙ none) in cc

heeds_later : (w : Waking) (ds es : List (List (ℤ × ℤ))) (v n k i : ℕ) → ds ≡ es → n ≤ k → Heeds w ds v n i → Heeds w es v k i
heeds_later w ds es v n k i same low (inl waits) = inl (later w v n k i low waits)
heeds_later w ds es v n k i same low (inr watching) = inr (let some = watching.0 in omega (arith, some, low), subst (λ (fs : List (List (ℤ × ℤ))). SomeByRecursion (λ (e : Watch). (e.place ≡ i) × IsSeen e.while_left fs e.term e.number) (watches_at w v)) same watching.1)

called : (w : Waking) (s t : Stored) (l k m : Lineup) (v n : ℕ) → IsUnderWay w s l t k → n ≡ mark_at t v → IsWoken (Heeds w t.doms v n) w.costs k m → IsWoken (IsCalled w s) w.costs l m
called w s t l k m v n under marked woken =
    woken_twice (IsCalled w s) w.costs l k m under.draining.woken
    (woken_by_more (Heeds w t.doms v n) (IsCalled w s) w.costs k m (λ i heeds. (v, heeds_later w t.doms s.doms v n (mark_at s v) i under.draining.doms (omega (arith, marked, under.marks v)) heeds)) woken)

-- those that wait for the first are woken, not all of them where memory gave out
pub draining_woken : (w : Waking) (s t : Stored) (l k m : Lineup) (v n : ℕ) (rest : List ℕ) → IsUnderWay w s l t k → t.changed ≡ v ∷ rest → n ≡ mark_at t v → IsWoken (Heeds w t.doms v n) w.costs k m
    → IsDraining w s l t m
draining_woken w s t l k m v n rest under is marked woken = record {
  store = under.draining.store;
  doms = under.draining.doms;
  woken = called w s t l k m v n under marked woken;
  settled = λ sayings index settled. settled_woken sayings (Heeds w t.doms v n) w.costs k m t woken (under.draining.settled sayings index settled);
  still = λ none. absurd (something s t v rest is none (under.draining.still none).0);
}

lower : (xs : List ℕ) (v u : ℕ) → slice_index (slice_set xs v 0) u ≤ slice_index xs u
lower [] v u = omega arith
lower (x ∷ xs) zero zero = omega arith
lower (x ∷ xs) zero (suc u) = omega arith
lower (x ∷ xs) (suc v) zero = omega arith
lower (x ∷ xs) (suc v) (suc u) = lower xs v u

-- and then it is taken from the list
pub draining_taken : (w : Waking) (s t u : Stored) (l k m : Lineup) (v n : ℕ) (rest : List ℕ) → IsUnderWay w s l t k → t.changed ≡ v ∷ rest → IsWoken (Heeds w t.doms v n) w.costs k m
    → n ≡ mark_at t v → AllAwake w v n m.states → (1 ≤ n → AreWatchersAwake t.doms m.states (watches_at w v)) → IsTaken t u → IsStore u → IsUnderWay w s l u m
draining_taken w s t u l k m v n rest under is woken marked awake watching taken store =
    let draining = under.draining in
    let first : taken.first ≡ v = let e : taken.first ∷ taken.rest ≡ v ∷ rest = sym taken.list ∙ is in cc in
    let at : u ≡ without_first t v taken.rest = taken.taken ∙ ap (λ (k : ℕ). without_first t k taken.rest) first in
    record {
      draining = record {
        store = store;
        doms = ap (λ (x : Stored). x.doms) at ∙ draining.doms;
        woken = called w s t l k m v n under marked woken;
        settled = λ sayings index settled.
            let before : IsSettled sayings m.states t = settled_woken sayings (Heeds w t.doms v n) w.costs k m t woken (draining.settled sayings index settled) in
            subst (λ (x : Stored). IsSettled sayings m.states x) (sym at)
            (may_be_taken sayings m.states t v taken.rest before (are_woken sayings w m.states t v index before.size (subst (λ (k : ℕ). AllAwake w v k m.states) marked awake)
            (subst (λ (k : ℕ). 1 ≤ k → AreWatchersAwake t.doms m.states (watches_at w v)) marked watching)));
        still = λ none. absurd (something s t v rest is none (draining.still none).0);
      };
      marks = λ x.
          let low = lower t.marks v x in
          let now : mark_at u x ≡ slice_index (slice_set t.marks v 0) x = ap (λ (y : Stored). mark_at y x) at in
          omega (arith, low, now, under.marks x);
    }

pub has_variable : (w : Waking) (n v : ℕ) → HaveSize w n → v < n → HasVariable w v
has_variable w n v size below = record {
  any = omega (arith, size.any, below);
  bound = omega (arith, size.bound, below);
  fixed = omega (arith, size.fixed, below);
  watches = omega (arith, size.watches, below);
}

-- ---- one more in a list

-- the lists of one kind change
abbrev pub AreOnly : List (List ℕ) → List (List ℕ) → ℕ → ℕ → Type 0
AreOnly lists after p place = (v i : ℕ) → IsListed (slice_index_or after v []) i → IsListed (slice_index_or lists v []) i ⊎ ((v ≡ p) × (i ≡ place))

-- whoever is listed was listed, or is the one that waits for a change of a kind at a variable
abbrev pub IsOnly : Waking → Waking → Event → ℕ → ℕ → Type 0
IsOnly w u event p place = (e : Event) (v i : ℕ) → IsListed (waiting_at u e v) i → IsListed (waiting_at w e v) i ⊎ ((e ≡ event) × (v ≡ p) × (i ≡ place))

abbrev AreStillListed : Waking → Waking → Type 0
AreStillListed w u = (event : Event) (v i : ℕ) → IsListed (waiting_at w event v) i → IsListed (waiting_at u event v) i

-- in the lists of one kind one more stands at a variable
pub record IsGrown (event : Event) (w u : Waking) (p place : ℕ) : Type 0 where
  pub extends : Extends w u
  pub only : IsOnly w u event p place

tell : (event : Event) (v i p place : ℕ) (L : Type 0) → L ⊎ ((v ≡ p) × (i ≡ place)) → L ⊎ ((event ≡ event) × (v ≡ p) × (i ≡ place))
tell event v i p place L (inl l) = inl l
tell event v i p place L (inr e) = inr (refl, e.0, e.1)

pub any_grown : (w : Waking) (after : List (List ℕ)) (p place : ℕ) → ((v i : ℕ) → IsListed (slice_index_or w.any v []) i → IsListed (slice_index_or after v []) i) → AreOnly w.any after p place
    → IsGrown Any w (record { any = after; bound = w.bound; fixed = w.fixed; watches = w.watches; costs = w.costs }) p place
any_grown w after p place grows only = record { extends = record { listed = extends; watching = λ v e watching. watching }; only = others }
  where
    extends : AreStillListed w (record { any = after; bound = w.bound; fixed = w.fixed; watches = w.watches; costs = w.costs })
    extends Any v i listed = grows v i listed
    extends Bound v i listed = listed
    extends Fixed v i listed = listed

    others : (e : Event) (v i : ℕ) → IsListed (waiting_at (record { any = after; bound = w.bound; fixed = w.fixed; watches = w.watches; costs = w.costs }) e v) i
        → IsListed (waiting_at w e v) i ⊎ ((e ≡ Any) × (v ≡ p) × (i ≡ place))
    others Any v i listed = tell Any v i p place (IsListed (waiting_at w Any v) i) (only v i listed)
    others Bound v i listed = inl listed
    others Fixed v i listed = inl listed

pub bound_grown : (w : Waking) (after : List (List ℕ)) (p place : ℕ) → ((v i : ℕ) → IsListed (slice_index_or w.bound v []) i → IsListed (slice_index_or after v []) i) → AreOnly w.bound after p place
    → IsGrown Bound w (record { any = w.any; bound = after; fixed = w.fixed; watches = w.watches; costs = w.costs }) p place
bound_grown w after p place grows only = record { extends = record { listed = extends; watching = λ v e watching. watching }; only = others }
  where
    extends : AreStillListed w (record { any = w.any; bound = after; fixed = w.fixed; watches = w.watches; costs = w.costs })
    extends Any v i listed = listed
    extends Bound v i listed = grows v i listed
    extends Fixed v i listed = listed

    others : (e : Event) (v i : ℕ) → IsListed (waiting_at (record { any = w.any; bound = after; fixed = w.fixed; watches = w.watches; costs = w.costs }) e v) i
        → IsListed (waiting_at w e v) i ⊎ ((e ≡ Bound) × (v ≡ p) × (i ≡ place))
    others Any v i listed = inl listed
    others Bound v i listed = tell Bound v i p place (IsListed (waiting_at w Bound v) i) (only v i listed)
    others Fixed v i listed = inl listed

pub fixed_grown : (w : Waking) (after : List (List ℕ)) (p place : ℕ) → ((v i : ℕ) → IsListed (slice_index_or w.fixed v []) i → IsListed (slice_index_or after v []) i) → AreOnly w.fixed after p place
    → IsGrown Fixed w (record { any = w.any; bound = w.bound; fixed = after; watches = w.watches; costs = w.costs }) p place
fixed_grown w after p place grows only = record { extends = record { listed = extends; watching = λ v e watching. watching }; only = others }
  where
    extends : AreStillListed w (record { any = w.any; bound = w.bound; fixed = after; watches = w.watches; costs = w.costs })
    extends Any v i listed = listed
    extends Bound v i listed = listed
    extends Fixed v i listed = grows v i listed

    others : (e : Event) (v i : ℕ) → IsListed (waiting_at (record { any = w.any; bound = w.bound; fixed = after; watches = w.watches; costs = w.costs }) e v) i
        → IsListed (waiting_at w e v) i ⊎ ((e ≡ Fixed) × (v ≡ p) × (i ≡ place))
    others Any v i listed = inl listed
    others Bound v i listed = inl listed
    others Fixed v i listed = tell Fixed v i p place (IsListed (waiting_at w Fixed v) i) (only v i listed)
