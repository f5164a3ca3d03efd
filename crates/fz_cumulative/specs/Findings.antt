-- What is found of tasks that share a bounded resource.
use Rattle.std.specs.Prelude.{ℕ, ℤ, pos, ◌≤ℤ◌, ◌<ℤ◌, List}
use Rattle.fz_strength.specs.declared.open_task.OpenTask.{OpenTask}
use Rattle.fz_strength.specs.Cumulatives.{open_tasks}
use Rattle.fz_strength.specs.Domains.{term_set}
use Rattle.fz_dom.specs.Shape.{least}
use Rattle.fz_spec.specs.declared.term.Term.{Term}
use Rattle.fz_cumulative.specs.declared.finding.Negative.{Negative}
use Rattle.fz_cumulative.specs.declared.finding.Negative.TheVariants.{Bound, Duration, Usage}
use Rattle.fz_cumulative.specs.declared.finding.Blocked.{Blocked}
use Rattle.fz_cumulative.specs.declared.finding.Blocked.TheVariants.{Everywhere, Before, After}
use Rattle.fz_cumulative.specs.Tasks.{IsAt, IsBlocked}

-- what may be negative, of tasks and the least of a bound
abbrev pub IsNegative : List OpenTask → ℤ → Negative → Type 0
IsNegative tasks low Bound = low <ℤ pos 0
IsNegative tasks low (Duration place) = IsAt tasks place (λ task. task.duration <ℤ pos 0)
IsNegative tasks low (Usage place) = IsAt tasks place (λ task. task.usage <ℤ pos 0)

-- what may be negative, of the tasks of three lists and a bound
abbrev pub IsNegativeOf : List (List (ℤ × ℤ)) → List Term → List Term → List Term → Term → Negative → Type 0
IsNegativeOf ds ss dd us b negative = IsNegative (open_tasks ds ss dd us) (least (term_set ds b)) negative

-- Some starts of the task at a place, of those that are left, are blocked, and one of them is left.
abbrev pub IsBlockedAt : List OpenTask → ℤ → ℕ → Blocked → Type 0
IsBlockedAt tasks high place Everywhere =
    IsAt tasks place (λ task. (start : ℤ) → task.earliest ≤ℤ start → start ≤ℤ task.latest → IsBlocked tasks high place task start)
IsBlockedAt tasks high place (Before first) =
    IsAt tasks place (λ task. (task.earliest <ℤ first) × ((start : ℤ) → task.earliest ≤ℤ start → start <ℤ first → IsBlocked tasks high place task start))
IsBlockedAt tasks high place (After last) =
    IsAt tasks place (λ task. (last <ℤ task.latest) × ((start : ℤ) → last <ℤ start → start ≤ℤ task.latest → IsBlocked tasks high place task start))

-- a start that isn't one of those
abbrev pub IsFree : Blocked → ℤ → Type 0
IsFree Everywhere start = ⊥
IsFree (Before first) start = first ≤ℤ start
IsFree (After last) start = start ≤ℤ last
