-- Laws of machines, whatever the events.
use Rattle.std.specs.Prelude.{◌≡◌, ◌≢◌, ℕ, ◌+◌, ◌<◌, ◌≤◌, ◌^◌, ℤ, List, [], ◌∷◌, ◌++◌, true, Option, Some, None, sum_by, if◌then◌else◌, map}
use Rattle.std.specs.List.{AllByRecursion, list_all, flat_map}
use Rattle.std.specs.List.Sorted.{IsPermutation}
use Rattle.fz_spec.specs.Instance.{Instance, SearchPart, Satisfies, Lists}
use Rattle.fz_tree.specs.declared.mode.Mode.{Mode}
use Rattle.fz_tree.specs.declared.mode.Mode.TheVariants.{All, Rows, Best}
use Rattle.fz_tree.specs.Frontier.{Frontier, times_in}
use Rattle.fz_tree.specs.Better.{IsModeOf, Betters}
use Rattle.fz_tree.specs.Rows.{ListsRows}
use Rattle.fz_tree.specs.Account.{Account, times_found}
use Rattle.fz_tree.specs.Book.{Part, incumbent, is_claimed, times_recorded}
use Rattle.fz_path.specs.Tasks.{Tasked}
use Rattle.fz_machine.specs.declared.event.Event.{Event}
use Rattle.fz_machine.specs.Cores.{Worker, Core, CoreLaw, starting_by, told, hand_adds}
use Rattle.fz_machine.specs.Runs.{Runs}

-- what becomes of that many workers on a model, that search it by some plan, by some list of calls
pub record Reaches (s : Core) : Type 0 where
  pub model : Instance
  pub mode : Mode
  pub plan : List SearchPart
  pub workers : ℕ
  pub commit_distance : ℕ
  pub adaptive_distance : ℕ
  pub own_mode : IsModeOf model.goal mode
  pub several : 1 ≤ workers
  pub numbered : workers < 2 ^ 32
  pub distances : (1 ≤ commit_distance) × (1 ≤ adaptive_distance)
  pub events : List Event
  pub runs : Runs events (starting_by model mode plan workers commit_distance adaptive_distance) s

-- The laws of the book, of each path and of each account hold, and the claimed parts are what paths and hands hold.
abbrev pub EventsKeepLaw : Type 0
EventsKeepLaw = (s : Core) → Reaches s → CoreLaw s

-- It is kept, too, where a better one that was found elsewhere is recorded. So all below holds of every core that keeps it.
abbrev pub OffersKeepLaw : Type 0
OffersKeepLaw = (s : Core) (a : List ℤ) → CoreLaw s → s.book.mode ≡ Best → Satisfies s.book.model a → Betters s.book.model a (incumbent s.book) → CoreLaw (told s a)

-- ---- nothing is lost, and nothing is searched twice

abbrev pub path_held : Option Account → List Frontier
path_held None = []
path_held (Some c) = c.before ∷ []

abbrev pub hand_held : Option Tasked → List Frontier
hand_held None = []
hand_held (Some t) = t.frontier ∷ []

abbrev pub worker_held : Worker → List Frontier
worker_held w = path_held w.path.held ++ hand_held w.hand

abbrev pub unclaimed_in : List Part → List Frontier
unclaimed_in [] = []
unclaimed_in (p ∷ ps) = if p.claimed then unclaimed_in ps else p.frontier ∷ unclaimed_in ps

-- what paths were started with, what the tasks in hands are, and what nobody has claimed
abbrev pub held : Core → List Frontier
held s = flat_map worker_held s.workers ++ unclaimed_in s.book.parts

-- that is what the book names as open, up to order
abbrev pub OpenIsHeld : Type 0
OpenIsHeld = (s : Core) → CoreLaw s → IsPermutation (map (λ (p : Part). p.frontier) s.book.parts) (held s)

-- how often an assignment, or one of its row, is found in a path, and in how many open places of it
abbrev pub path_has : Instance → List ℤ → Option Account → ℕ
path_has m a None = 0
path_has m a (Some c) = times_found c.mode m a c.found + times_in c.after a

abbrev pub worker_has : Instance → List ℤ → Worker → ℕ
worker_has m a w = path_has m a w.path.held + hand_adds (λ (f : Frontier). times_in f a) w.hand

abbrev pub unclaimed_has : List ℤ → Part → ℕ
unclaimed_has a p = if p.claimed then 0 else times_in p.frontier a

-- Where all are sought, or their rows, each satisfying assignment, or one of its row, is recorded once, or found once in one path, or
-- it is in one open place of a path, a hand or an unclaimed part.
abbrev pub EachIsOnce : Type 0
EachIsOnce = (s : Core) (a : List ℤ) → CoreLaw s → s.book.mode ≢ Best → Satisfies s.book.model a
    → times_recorded s.book a + sum_by (worker_has s.book.model a) s.workers + sum_by (unclaimed_has a) s.book.parts ≡ 1

-- ---- the end

pub record IsIdle (w : Worker) : Type 0 where
  pub holds : w.path.held ≡ None
  pub hand : w.hand ≡ None

-- no path holds a frontier, no hand a task, and nothing is unclaimed
pub record IsQuiet (s : Core) : Type 0 where
  pub workers : AllByRecursion IsIdle s.workers
  pub claimed : list_all is_claimed s.book.parts ≡ true

-- the book is closed then
abbrev pub QuietIsClosed : Type 0
QuietIsClosed = (s : Core) → CoreLaw s → IsQuiet s → s.book.parts ≡ []

-- It records each satisfying assignment once, or one of each row, or its incumbent is one that none betters.
abbrev pub QuietListsAll : Type 0
QuietListsAll = (s : Core) → CoreLaw s → IsQuiet s → s.book.mode ≡ All → Lists s.book.model s.book.recorded

abbrev pub QuietListsRows : Type 0
QuietListsRows = (s : Core) → CoreLaw s → IsQuiet s → s.book.mode ≡ Rows → ListsRows s.book.model s.book.recorded

abbrev pub QuietIsBest : Type 0
QuietIsBest = (s : Core) (a : List ℤ) → CoreLaw s → IsQuiet s → s.book.mode ≡ Best → Satisfies s.book.model a → Betters s.book.model a (incumbent s.book) → ⊥
