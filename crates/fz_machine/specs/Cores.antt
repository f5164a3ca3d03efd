-- Several workers and one book, and what they keep.
use Rattle.std.specs.Prelude.{◌≡◌, ℕ, ◌+◌, ◌<◌, ◌≤◌, ◌^◌, ℤ, List, [], Option, Some, None, IfSome, length, replicate, sum_by, if◌then◌else◌, slice_set}
use Rattle.std.specs.List.{AllByRecursion, slice_get}
use Rattle.fz_spec.specs.Instance.{Instance, SearchPart}
use Rattle.fz_tree.specs.declared.mode.Mode.{Mode}
use Rattle.fz_tree.specs.Frontier.{Frontier, AreEdges}
use Rattle.fz_tree.specs.Account.{Account, AccountLaw}
use Rattle.fz_tree.specs.Rows.{AreAbout}
use Rattle.fz_tree.specs.Book.{Book, BookLaw, Part, opening, with_recorded}
use Rattle.fz_path.specs.Paths.{Pathed, PathLaw, idle_path, idle_with}
use Rattle.fz_path.specs.Tasks.{Tasked}

-- A worker's path, and the task in its hand.
pub record Worker : Type 0 where
  pub path : Pathed
  pub hand : Option Tasked

pub record Core : Type 0 where
  pub workers : List Worker
  pub book : Book

-- a worker that holds nothing, knows nothing and has no task
abbrev pub idle : Instance → Mode → ℕ → ℕ → Worker
idle m mode commit adaptive = record { path = idle_path m mode commit adaptive; hand = None }

-- that many such workers, and a book of the whole tree
abbrev pub starting : Instance → Mode → ℕ → ℕ → ℕ → Core
starting m mode n commit adaptive = record { workers = replicate n (idle m mode commit adaptive); book = opening m mode }

-- the same, by another plan than the model's own
abbrev pub idle_by : Instance → Mode → List SearchPart → ℕ → ℕ → Worker
idle_by m mode plan commit adaptive = record { path = idle_with m mode plan commit adaptive; hand = None }

abbrev pub starting_by : Instance → Mode → List SearchPart → ℕ → ℕ → ℕ → Core
starting_by m mode plan n commit adaptive = record { workers = replicate n (idle_by m mode plan commit adaptive); book = opening m mode }

abbrev pub worker_at : Core → ℕ → Option Worker
worker_at s i = slice_get s.workers i

-- another worker has this number
abbrev pub with_worker : Core → ℕ → Worker → Core
with_worker s i w = record { workers = slice_set s.workers i w; book = s.book }

-- an assignment that was found elsewhere is recorded
abbrev pub told : Core → List ℤ → Core
told s a = record { workers = s.workers; book = with_recorded s.book a }

-- ---- what is held

-- The frontier that a path was started with, that of the task in a hand, and both, by what each counts.
abbrev pub path_adds : (Frontier → ℕ) → Option Account → ℕ
path_adds g None = 0
path_adds g (Some c) = g c.before

abbrev pub hand_adds : (Frontier → ℕ) → Option Tasked → ℕ
hand_adds g None = 0
hand_adds g (Some t) = g t.frontier

abbrev pub worker_adds : (Frontier → ℕ) → Worker → ℕ
worker_adds g w = path_adds g w.path.held + hand_adds g w.hand

abbrev pub claimed_adds : (Frontier → ℕ) → Part → ℕ
claimed_adds g p = if p.claimed then g p.frontier else 0

-- The claimed parts are what paths and hands hold, each as often: whatever a frontier counts, both sides count the same.
abbrev pub AreHeld : List Part → List Worker → Type 0
AreHeld ps ws = (g : Frontier → ℕ) → sum_by (claimed_adds g) ps ≡ sum_by (worker_adds g) ws

-- ---- the law

-- What a path holds between two events keeps the law of accounts, and its witness is what the path knows. Where rows are sought, it
-- is of a frontier that is divided by what is printed. What was given away is reported in the same event.
pub record IsOwn (known : Option (List ℤ)) (c : Account) : Type 0 where
  pub law : AccountLaw c
  pub about : AreAbout c.mode c.model c.before.edges
  pub witness : c.witness ≡ known
  pub given : c.given ≡ []

-- a task for a path of this model and mode
pub record IsTaskOf (m : Instance) (mode : Mode) (t : Tasked) : Type 0 where
  pub edges : AreEdges t.frontier.edges
  pub about : AreAbout mode m t.frontier.edges

pub record IsWorkerOf (m : Instance) (sought : Mode) (w : Worker) : Type 0 where
  pub model : w.path.model ≡ m
  pub mode : w.path.mode ≡ sought
  pub law : PathLaw w.path
  pub account : IfSome w.path.held (IsOwn w.path.known)
  pub task : IfSome w.hand (IsTaskOf m sought)

pub record CoreLaw (s : Core) : Type 0 where
  pub several : 1 ≤ length s.workers
  pub numbered : length s.workers < 2 ^ 32
  pub book : BookLaw s.book
  pub workers : AllByRecursion (IsWorkerOf s.book.model s.book.mode) s.workers
  pub held : AreHeld s.book.parts s.workers
