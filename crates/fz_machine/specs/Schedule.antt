-- Whose turn it is when workers take turns on one thread, and what it does in its turn.
use Rattle.std.specs.Prelude.{◌≡◌, ◌⊎◌, ◌↔◌, ℕ, ◌+◌, ◌-◌, ◌*◌, ◌/◌, ◌%◌, ◌^◌, ◌<◌, ◌≤◌, ℤ, Bool, false, ◌&&◌, ◌||◌, nat_lt, if◌then◌else◌, IsTrue, IsSomeAnd, List, length, Option, Some, None, is_some, option_map}
use Rattle.std.specs.List.{position_from}
use Rattle.fz_tree.specs.Better.{Betters}
use Rattle.fz_tree.specs.Account.{Account}
use Rattle.fz_tree.specs.Book.{incumbent}
use Rattle.fz_path.specs.Paths.{is_spent, can_cut_held, found_held}
use Rattle.fz_machine.specs.declared.event.Event.{Event}
use Rattle.fz_machine.specs.declared.event.Event.TheVariants.{Claim, Start, Step, Report, Steal, Learn}
use Rattle.fz_machine.specs.declared.event.Outcome.{Outcome}
use Rattle.fz_machine.specs.declared.schedule.TheConstants.{MULTIPLIER, INCREMENT}
use Rattle.fz_machine.specs.Cores.{Worker, Core, worker_at}
use Rattle.fz_machine.specs.Lawfulness.{is_ready, is_busy, has_unclaimed, improving}
use Rattle.fz_machine.specs.Events.{Happens, Refuses}

-- ---- the numbers that pick workers

abbrev pub next_number : ℕ → ℕ
next_number x = (x * MULTIPLIER + INCREMENT) % 2 ^ 64

-- the worker that such a number picks, of that many
abbrev pub picked : ℕ → ℕ → ℕ
picked x workers = (x / 2 ^ 33) % workers

-- ---- the next event of a worker

-- nothing is left of what is held, or some number is enough and something was found
abbrev pub has_report : Option ℕ → Option Account → Bool
has_report enough held = is_spent held || (is_some enough && nat_lt 0 (found_held held))

abbrev pub is_to_report : Option ℕ → Option Worker → Bool
is_to_report enough None = false
is_to_report enough (Some w) = has_report enough w.path.held

-- the best that is recorded betters what it knows
abbrev pub HasNews : Core → Option Worker → Type 0
HasNews s None = ⊥
HasNews s (Some w) = IsSomeAnd (incumbent s.book) (λ (a : List ℤ). Betters s.book.model a w.path.known)

-- the first worker of whose frontier a part can be cut off
abbrev pub can : Worker → Bool
can w = can_cut_held w.path.held

abbrev pub first_cut : Core → Option ℕ
first_cut s = position_from can 0 s.workers

-- what a worker does that holds nothing and has no task
abbrev pub gain : Core → ℕ → Option Event
gain s w = if has_unclaimed s.book then Some (Claim w) else option_map (λ v. Steal v w) (first_cut s)

-- what a worker does that has news or not
abbrev pub event_of : Core → Option ℕ → ℕ → Bool → Option Event
event_of s enough w news =
    if is_ready (worker_at s w) then Some (Start w) else
    (if is_to_report enough (worker_at s w) then Some (Report w) else
    (if is_busy (worker_at s w) then Some (if news then Learn w (length (improving s.book) - 1) else Step w) else gain s w))

-- Start where its hand is full, Report where there is something to report, Learn where there is news, Step where it holds a
-- frontier, Claim where something is unclaimed, Steal where something can be cut off: the first of these that fits.
pub record IsNext (s : Core) (enough : Option ℕ) (w : ℕ) (next : Option Event) : Type 0 where
  pub news : Bool
  pub told : IsTrue news ↔ HasNews s (worker_at s w)
  pub is : next ≡ event_of s enough w news

-- ---- turns

-- none of these workers has a next event
abbrev pub NoneActs : Core → Option ℕ → ℕ → ℕ → Type 0
NoneActs s enough from to = (w : ℕ) → from ≤ w → w < to → IsNext s enough w None

-- the first of these workers that has a next event
pub record FirstActs (s : Core) (enough : Option ℕ) (from to : ℕ) (event : Event) : Type 0 where
  pub worker : ℕ
  pub above : from ≤ worker
  pub below : worker < to
  pub next : IsNext s enough worker (Some event)
  pub others : NoneActs s enough from worker

-- Of a worker and those after it, around, the first that has a next event has its turn.
abbrev pub IsTurn : Core → Option ℕ → ℕ → Option Event → Type 0
IsTurn s enough first None = NoneActs s enough 0 (length s.workers)
IsTurn s enough first (Some event) = FirstActs s enough first (length s.workers) event ⊎ (NoneActs s enough first (length s.workers) × FirstActs s enough 0 first event)

-- ---- a run

-- as many are recorded as are enough
abbrev pub HasEnough : Option ℕ → Core → Type 0
HasEnough enough s = IsSomeAnd enough (λ n. n ≤ length s.book.recorded)

-- the event whose turn it is after this number
pub record HasTurn (enough : Option ℕ) (x : ℕ) (s : Core) (event : Event) : Type 0 where
  pub few : HasEnough enough s → ⊥
  pub turn : IsTurn s enough (picked (next_number x) (length s.workers)) (Some event)

-- what becomes of a core, and of the number, turn by turn
pub data Goes (enough : Option ℕ) (x : ℕ) (s : Core) : ℕ → Core → Type 0 where
  begins : Goes enough x s x s
  acts : (y : ℕ) (t u : Core) (event : Event) (outcome : Outcome) → Goes enough x s y t → HasTurn enough y t event → Happens event outcome t u → Goes enough x s (next_number y) u

-- it stands after some turns
pub record HasGone (enough : Option ℕ) (seed : ℕ) (s t : Core) : Type 0 where
  pub number : ℕ
  pub goes : Goes enough seed s number t

-- where there is no memory: it stands after some turns, but that a worker whose turn it was may have moved
pub record HasStopped (enough : Option ℕ) (seed : ℕ) (s new : Core) : Type 0 where
  pub number : ℕ
  pub core : Core
  pub goes : Goes enough seed s number core
  pub event : Event
  pub turn : HasTurn enough number core event
  pub refuses : Refuses event core new
