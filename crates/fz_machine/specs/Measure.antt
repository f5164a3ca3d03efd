-- How much of a run is left: a number that each event of the schedule lowers.
use Rattle.std.specs.Prelude.{ℕ, ◌+◌, ◌-◌, ◌*◌, ◌^◌, ℤ, nat_abs, if◌then◌else◌, List, length, sum_by, Option, Some, None}
use Rattle.fz_spec.specs.Instance.{Instance, score}
use Rattle.fz_tree.specs.Frontier.{Frontier}
use Rattle.fz_tree.specs.Account.{Account}
use Rattle.fz_tree.specs.Book.{Part}
use Rattle.fz_tree.specs.Measure.{weight}
use Rattle.fz_path.specs.Tasks.{Tasked}
use Rattle.fz_machine.specs.Cores.{Worker, Core}

-- more than the score of any satisfying assignment
abbrev pub SCORES : ℕ
SCORES = 2 ^ 32

-- the score of what is known
abbrev pub score_left : Instance → Option (List ℤ) → ℕ
score_left m None = SCORES
score_left m (Some a) = nat_abs (score m a)

-- Its weight falls where a node is closed or divided. What it weighs beside the place below its edges falls where a part is cut off,
-- and counts more than a task in a hand.
abbrev pub frontier_left : Instance → Frontier → ℕ
frontier_left m f = 2 * weight m f + (SCORES + 3) * (weight m f - (if f.current_open then 1 else 0))

-- what is left of what a path holds, with what it has to report and may still learn
abbrev pub path_left : Instance → Option Account → ℕ
path_left m None = 0
path_left m (Some c) = 1 + frontier_left m c.after + length c.found + score_left m c.witness

-- a task counts more than a path that has taken it up
abbrev pub hand_left : Instance → Option Tasked → ℕ
hand_left m None = 0
hand_left m (Some t) = SCORES + 2 + frontier_left m t.frontier

abbrev pub worker_left : Instance → Worker → ℕ
worker_left m w = path_left m w.path.held + hand_left m w.hand

-- what nobody has claimed counts more than a task
abbrev pub part_left : Instance → Part → ℕ
part_left m p = if p.claimed then 0 else SCORES + 3 + frontier_left m p.frontier

abbrev pub core_left : Core → ℕ
core_left s = sum_by (worker_left s.book.model) s.workers + sum_by (part_left s.book.model) s.book.parts
