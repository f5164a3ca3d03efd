-- What each event makes of workers and book. Workers that an event doesn't name stay, and so does what it doesn't name of those.
use Rattle.std.specs.Prelude.{◌≡◌, ℕ, ℤ, true, List, Option, Some, None, IfSome, slice_set}
use Rattle.std.specs.List.{slice_get}
use Rattle.fz_tree.specs.Frontier.{Frontier, can_cut, part_of}
use Rattle.fz_tree.specs.Account.{Account, with_given}
use Rattle.fz_tree.specs.Book as books
use Rattle.fz_account.specs.declared.account.Learned.{Learned}
use Rattle.fz_account.specs.declared.account.Learned.TheVariants as learned
use Rattle.fz_path.specs.declared.step.Step.{Step}
use Rattle.fz_path.specs.declared.step.Step.TheVariants as step
use Rattle.fz_path.specs.Paths.{Pathed, with_held, held_behind}
use Rattle.fz_path.specs.Steps.{StepsTo, Falls, Stays}
use Rattle.fz_path.specs.Tasks.{Tasked, bare_task}
use Rattle.fz_path.specs.Starts.{TakesUp}
use Rattle.fz_path.specs.Cuts.{IsNearOf, held_behind_cut}
use Rattle.fz_path.specs.Learns.{Learns}
use Rattle.fz_machine.specs.declared.event.Event.{Event}
use Rattle.fz_machine.specs.declared.event.Event.TheVariants as event
use Rattle.fz_machine.specs.declared.event.Outcome.{Outcome}
use Rattle.fz_machine.specs.declared.event.Outcome.TheVariants as outcome
use Rattle.fz_machine.specs.Cores.{Worker, Core, worker_at, with_worker}
use Rattle.fz_machine.specs.Lawfulness.{improving}

-- an idle worker with an empty hand is handed what the book had unclaimed, with no space
pub record ClaimsAt (w : ℕ) (old new : Core) : Type 0 where
  pub worker : Worker
  pub at : worker_at old w ≡ Some worker
  pub idle : worker.path.held ≡ None
  pub empty : worker.hand ≡ None
  pub frontier : Frontier
  pub claims : books.Claims old.book frontier new.book
  pub workers : new.workers ≡ slice_set old.workers w (record { path = worker.path; hand = Some (bare_task frontier) })

-- an idle worker takes up the task in its hand, and learns before what comes with it, where that is news
pub record StartsAt (w : ℕ) (old new : Core) : Type 0 where
  pub worker : Worker
  pub at : worker_at old w ≡ Some worker
  pub idle : worker.path.held ≡ None
  pub task : Tasked
  pub full : worker.hand ≡ Some task
  pub path : Pathed
  pub takes : TakesUp worker.path path task
  pub is : new ≡ with_worker old w (record { path = path; hand = None })

-- the worker that holds this instead
abbrev pub holding : Worker → Option Account → Worker
holding w held = record { path = with_held w.path held; hand = w.hand }

abbrev pub step_outcome : Step → Option Outcome
step_outcome step.Expanded = Some outcome.Expanded
step_outcome step.Found = Some outcome.Found
step_outcome step.Closed = Some outcome.Closed
step_outcome step.Idle = None

-- a worker that holds a frontier looks at a node, and divides it by its plan
pub record StepsAt (w : ℕ) (answer : Outcome) (old new : Core) : Type 0 where
  pub worker : Worker
  pub at : worker_at old w ≡ Some worker
  pub account : Account
  pub holds : worker.path.held ≡ Some account
  pub step : Step
  pub answers : step_outcome step ≡ Some answer
  pub stepped : Account
  pub steps : StepsTo worker.path.plan step account stepped
  pub falls : Falls step account stepped
  pub is : new ≡ with_worker old w (holding worker (Some stepped))

-- the book takes the account of a worker, that goes on with what is left
pub record ReportsAt (w : ℕ) (old new : Core) : Type 0 where
  pub worker : Worker
  pub at : worker_at old w ≡ Some worker
  pub account : Account
  pub holds : worker.path.held ≡ Some account
  pub takes : books.Takes old.book account new.book
  pub workers : new.workers ≡ slice_set old.workers w (holding worker (held_behind account))

-- A part of what v holds is cut off for w, that is idle with an empty hand, maybe with a space of v's, and the book takes the account
-- of v, which names the part as given. v goes on with what is left.
pub record StealsAt (v w : ℕ) (old new : Core) : Type 0 where
  pub victim : Worker
  pub at_victim : worker_at old v ≡ Some victim
  pub account : Account
  pub holds : victim.path.held ≡ Some account
  pub can : can_cut account.after ≡ true
  pub other : v ≡ w → ⊥
  pub thief : Worker
  pub at_thief : worker_at old w ≡ Some thief
  pub idle : thief.path.held ≡ None
  pub empty : thief.hand ≡ None
  pub takes : books.Takes old.book (with_given account) new.book
  pub task : Tasked
  pub part : task.frontier ≡ part_of account.after
  pub near : IfSome task.near (IsNearOf victim.path)
  pub workers : new.workers ≡ slice_set (slice_set old.workers v (holding victim (held_behind_cut account))) w (record { path = thief.path; hand = Some task })

abbrev pub learned_outcome : Learned → Outcome
learned_outcome learned.Learned = outcome.Learned
learned_outcome learned.Ignored = outcome.Ignored

-- a worker is told the i-th of those that were recorded as better ones
pub record LearnsAt (w i : ℕ) (answer : Outcome) (old new : Core) : Type 0 where
  pub worker : Worker
  pub at : worker_at old w ≡ Some worker
  pub assignment : List ℤ
  pub told : slice_get (improving old.book) i ≡ Some assignment
  pub learned : Learned
  pub answers : learned_outcome learned ≡ answer
  pub path : Pathed
  pub learns : Learns learned worker.path assignment path
  pub is : new ≡ with_worker old w (record { path = path; hand = worker.hand })

abbrev pub Happens : Event → Outcome → Core → Core → Type 0
Happens (event.Claim w) answer old new = (answer ≡ outcome.Moved) × ClaimsAt w old new
Happens (event.Start w) answer old new = (answer ≡ outcome.Moved) × StartsAt w old new
Happens (event.Step w) answer old new = StepsAt w answer old new
Happens (event.Report w) answer old new = (answer ≡ outcome.Moved) × ReportsAt w old new
Happens (event.Steal v w) answer old new = (answer ≡ outcome.Moved) × StealsAt v w old new
Happens (event.Learn w i) answer old new = LearnsAt w i answer old new

-- ---- where there is no memory

-- a worker that was to look at a node may have moved there
pub record StaysAt (w : ℕ) (old new : Core) : Type 0 where
  pub worker : Worker
  pub at : worker_at old w ≡ Some worker
  pub account : Account
  pub holds : worker.path.held ≡ Some account
  pub held : Option Account
  pub stays : Stays (Some account) held
  pub is : new ≡ with_worker old w (holding worker held)

-- else nothing changes
abbrev pub Refuses : Event → Core → Core → Type 0
Refuses (event.Claim w) old new = new ≡ old
Refuses (event.Start w) old new = new ≡ old
Refuses (event.Step w) old new = StaysAt w old new
Refuses (event.Report w) old new = new ≡ old
Refuses (event.Steal v w) old new = new ≡ old
Refuses (event.Learn w i) old new = new ≡ old
