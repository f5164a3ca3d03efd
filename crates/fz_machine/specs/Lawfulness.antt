-- Which events are lawful.
use Rattle.std.specs.Prelude.{◌==◌, ℤ, Bool, false, not, ◌&&◌, nat_lt, List, [], length, Option, Some, None, is_some, is_none}
use Rattle.std.specs.List.{list_all}
use Rattle.fz_tree.specs.declared.mode.Mode.{Mode}
use Rattle.fz_tree.specs.declared.mode.Mode.TheVariants.{All, Rows, Best}
use Rattle.fz_tree.specs.Book.{Book, is_claimed}
use Rattle.fz_path.specs.Paths.{can_cut_held}
use Rattle.fz_machine.specs.declared.event.Event.{Event}
use Rattle.fz_machine.specs.declared.event.Event.TheVariants.{Claim, Start, Step, Report, Steal, Learn}
use Rattle.fz_machine.specs.Cores.{Worker, Core, worker_at}

-- it holds nothing, and its hand is empty
abbrev pub is_free : Option Worker → Bool
is_free None = false
is_free (Some w) = is_none w.path.held && is_none w.hand

-- it holds nothing, and a task is in its hand
abbrev pub is_ready : Option Worker → Bool
is_ready None = false
is_ready (Some w) = is_none w.path.held && is_some w.hand

-- it holds a frontier
abbrev pub is_busy : Option Worker → Bool
is_busy None = false
is_busy (Some w) = is_some w.path.held

-- it holds one of which a part can be cut off
abbrev pub can_be_cut : Option Worker → Bool
can_be_cut None = false
can_be_cut (Some w) = can_cut_held w.path.held

abbrev pub has_unclaimed : Book → Bool
has_unclaimed b = not (list_all is_claimed b.parts)

-- those recorded as better than all before, which only a search for the best one records
abbrev pub improving_in : Mode → List (List ℤ) → List (List ℤ)
improving_in All recorded = []
improving_in Rows recorded = []
improving_in Best recorded = recorded

abbrev pub improving : Book → List (List ℤ)
improving b = improving_in b.mode b.recorded

abbrev pub is_lawful : Core → Event → Bool
is_lawful s (Claim w) = is_free (worker_at s w) && has_unclaimed s.book
is_lawful s (Start w) = is_ready (worker_at s w)
is_lawful s (Step w) = is_busy (worker_at s w)
is_lawful s (Report w) = is_busy (worker_at s w)
is_lawful s (Steal v w) = not (v == w) && (can_be_cut (worker_at s v) && is_free (worker_at s w))
is_lawful s (Learn w i) = is_some (worker_at s w) && nat_lt i (length (improving s.book))
