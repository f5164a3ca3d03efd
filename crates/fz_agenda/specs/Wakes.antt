-- Who waits for which change.
use Rattle.std.specs.Prelude.{◌≡◌, ◌≢◌, ◌⊎◌, Bool, ℕ, ℤ, ◌<◌, ◌≤◌, List, [], ◌∷◌, ◌++◌, length, slice_get, slice_index, slice_index_or, slice_set, Some}
use Rattle.std.specs.List.{AllByRecursion}
use Rattle.fz_spec.specs.declared.term.Term.{Term}
use Rattle.fz_spec.specs.Truth.{SomeByRecursion}
use Rattle.fz_strength.specs.declared.cost.Cost.{Cost}
use Rattle.fz_strength.specs.declared.event.Event.{Event}
use Rattle.fz_strength.specs.declared.event.Event.TheVariants.{Any, Bound, Fixed}
use Rattle.fz_strength.specs.Domains.{term_set, IsTermOf}
use Rattle.fz_strength.specs.Events.{Wait}
use Rattle.fz_strength.specs.Sayings.{Saying, line_of}
use Rattle.fz_prop.specs.Stores.{Stored, IsStore, IsListed, mark_at}
use Rattle.fz_agenda.specs.Agendas.{IsSettled}
use Rattle.fz_agenda.specs.declared.watches.Watch.{Watch}
use Rattle.fz_agenda.specs.Queues.{Lineup, rested, AreAwake, IsWoken}
use Rattle.fz_agenda.specs.Watches.{IsSeen, Looks, steady_waits}

-- for each kind of change and each variable the propagators that wait for it; for each variable those that look at it only for a while;
-- and the class of each propagator's cost
pub record Waking : Type 0 where
  pub any : List (List ℕ)
  pub bound : List (List ℕ)
  pub fixed : List (List ℕ)
  pub watches : List (List Watch)
  pub costs : List Cost

abbrev pub lists_of : Event → Waking → List (List ℕ)
lists_of Any w = w.any
lists_of Bound w = w.bound
lists_of Fixed w = w.fixed

abbrev pub waiting_at : Waking → Event → ℕ → List ℕ
waiting_at w event v = slice_index_or (lists_of event w) v []

-- the propagator of this number is listed at each of these changes
abbrev pub IsListedAt : Waking → ℕ → List Wait → Type 0
IsListedAt w i ws = AllByRecursion (λ (wait : Wait). IsListed (waiting_at w wait.event wait.variable) i) ws

-- the propagator of this number looks at a variable while a number is left of a term, or once it is gone
abbrev pub watch : ℕ → Term → ℤ → Bool → Watch
watch i t n left = record { place = i; term = t; number = n; while_left = left }

abbrev pub watches_at : Waking → ℕ → List Watch
watches_at w v = slice_index_or w.watches v []

abbrev pub IsWatch : Waking → ℕ → Watch → Type 0
IsWatch w v e = SomeByRecursion (λ (x : Watch). x ≡ e) (watches_at w v)

-- the propagator of what is said is listed at each change that it always waits for; and it watches each variable that it looks at for a
-- while, or is listed at all its changes
pub record IsIndexedAt (w : Waking) (i : ℕ) (saying : Saying) : Type 0 where
  pub steady : IsListedAt w i (steady_waits saying)
  pub watched : (v : ℕ) (t : Term) (n : ℤ) (left : Bool) → Looks saying v t n left → IsWatch w v (watch i t n left) ⊎ IsListed (waiting_at w Any v) i

-- and so is each of these
abbrev pub IsIndexOf : List Saying → Waking → Type 0
IsIndexOf sayings w = (i : ℕ) (saying : Saying) → slice_get sayings i ≡ Some saying → IsIndexedAt w i saying

-- the terms of these are of that many variables
abbrev pub AreWatchesOf : ℕ → List Watch → Type 0
AreWatchesOf n es = AllByRecursion (λ (e : Watch). IsTermOf n e.term) es

-- lists for that many variables
pub record HaveSize (w : Waking) (n : ℕ) : Type 0 where
  pub any : length w.any ≡ n
  pub bound : length w.bound ≡ n
  pub fixed : length w.fixed ≡ n
  pub watches : length w.watches ≡ n
  pub terms : AllByRecursion (AreWatchesOf n) w.watches

-- lists for this variable
pub record HasVariable (w : Waking) (v : ℕ) : Type 0 where
  pub any : v < length w.any
  pub bound : v < length w.bound
  pub fixed : v < length w.fixed
  pub watches : v < length w.watches

-- whoever is listed stays listed, and whoever watches goes on
pub record Extends (w u : Waking) : Type 0 where
  pub listed : (event : Event) (v i : ℕ) → IsListed (waiting_at w event v) i → IsListed (waiting_at u event v) i
  pub watching : (v : ℕ) (e : Watch) → IsWatch w v e → IsWatch u v e

-- the same lists, and one cost more
abbrev pub with_cost : Waking → Cost → Waking
with_cost w cost = record { any = w.any; bound = w.bound; fixed = w.fixed; watches = w.watches; costs = w.costs ++ cost ∷ [] }

-- the same, and one more that looks at a variable for a while
abbrev pub with_watch : Waking → ℕ → Watch → Waking
with_watch w v e = record { any = w.any; bound = w.bound; fixed = w.fixed; watches = slice_set w.watches v (watches_at w v ++ e ∷ []); costs = w.costs }

-- the propagator of this number waits for a change of a variable up to a level
abbrev pub WaitsFor : Waking → ℕ → ℕ → ℕ → Type 0
WaitsFor w v n i = ((1 ≤ n) × IsListed (waiting_at w Any v) i) ⊎ ((2 ≤ n) × IsListed (waiting_at w Bound v) i) ⊎ ((3 ≤ n) × IsListed (waiting_at w Fixed v) i)

-- it looks at a variable now
abbrev pub IsWatching : List (List (ℤ × ℤ)) → List Watch → ℕ → Type 0
IsWatching ds es i = SomeByRecursion (λ (e : Watch). (e.place ≡ i) × IsSeen e.while_left ds e.term e.number) es

-- and either of both
abbrev pub Heeds : Waking → List (List (ℤ × ℤ)) → ℕ → ℕ → ℕ → Type 0
Heeds w ds v n i = WaitsFor w v n i ⊎ ((1 ≤ n) × IsWatching ds (watches_at w v) i)

-- some mark shows a change that it heeds
abbrev pub IsCalled : Waking → Stored → ℕ → Type 0
IsCalled w s i = (v : ℕ) × Heeds w s.doms v (mark_at s v) i

-- none is idle of those that wait for a change of a variable up to a level
pub record AllAwake (w : Waking) (v n : ℕ) (states : List ℕ) : Type 0 where
  pub any : 1 ≤ n → AreAwake states (waiting_at w Any v)
  pub bound : 2 ≤ n → AreAwake states (waiting_at w Bound v)
  pub fixed : 3 ≤ n → AreAwake states (waiting_at w Fixed v)

-- none is idle of those that look at a variable now
abbrev pub AreWatchersAwake : List (List (ℤ × ℤ)) → List ℕ → List Watch → Type 0
AreWatchersAwake ds states es = AllByRecursion (λ (e : Watch). IsSeen e.while_left ds e.term e.number → e.place < length states → slice_index states e.place ≡ 0 → ⊥) es

-- From a store and a line-up, by waking those that wait for listed changes and taking these from the list, another store and
-- line-up.
pub record IsDraining (w : Waking) (s : Stored) (l : Lineup) (t : Stored) (m : Lineup) : Type 0 where
  pub store : IsStore t
  pub doms : t.doms ≡ s.doms
  pub woken : IsWoken (IsCalled w s) w.costs l m
  pub settled : (sayings : List Saying) → IsIndexOf sayings w → IsSettled sayings l.states s → IsSettled sayings m.states t
  pub still : s.changed ≡ [] → (t ≡ s) × (m ≡ l)

-- The same after a run of the first, which rests since its line holds: all others that wait for listed changes are woken.
pub record IsDrainingBut (place : ℕ) (w : Waking) (s : Stored) (l : Lineup) (t : Stored) (m : Lineup) : Type 0 where
  pub store : IsStore t
  pub doms : t.doms ≡ s.doms
  pub woken : IsWoken (λ (i : ℕ). IsCalled w s i × (i ≢ place)) w.costs (rested place l) m
  pub settled : (sayings : List Saying) (saying : Saying) → IsIndexOf sayings w → IsSettled sayings l.states s → slice_get sayings place ≡ Some saying → line_of saying s.doms → IsSettled sayings m.states t
  pub still : s.changed ≡ [] → (t ≡ s) × (m ≡ rested place l)

-- nothing is listed or marked
pub record IsDrained (s : Stored) : Type 0 where
  pub none : s.changed ≡ []
  pub unmarked : (v : ℕ) → mark_at s v ≡ 0
