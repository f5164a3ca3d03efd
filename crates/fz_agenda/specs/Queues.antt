-- The states of propagators, and the queues in which those that are queued stand.
use Rattle.std.specs.Prelude.{◌≡◌, ◌⊎◌, ℕ, ◌<◌, ◌≤◌, List, [], ◌∷◌, ◌++◌, length, slice_index, slice_index_or, slice_set, nat_eq, if◌then◌else◌, sum_by}
use Rattle.std.specs.List.{AllByRecursion, concat}
use Rattle.fz_strength.specs.declared.cost.Cost.{Cost}
use Rattle.fz_strength.specs.declared.cost.Cost.TheVariants.{Unary, Binary, Ternary, Linear, Quadratic, Cubic}

-- The state of each propagator: 0 idle, 1 queued, 2 gone. For each of six classes of cost, cheaper ones first, a queue.
pub record Lineup : Type 0 where
  pub states : List ℕ
  pub queues : List (List ℕ)

abbrev pub lineup : List ℕ → List (List ℕ) → Lineup
lineup states queues = record { states = states; queues = queues }

abbrev pub queue_at : Lineup → ℕ → List ℕ
queue_at l class = slice_index_or l.queues class []

-- those that are queued, in the order in which they run: cheaper classes first, in each first in, first out
abbrev pub line_of : Lineup → List ℕ
line_of l = concat l.queues

abbrev pub IsFirst : Lineup → ℕ → Type 0
IsFirst l i = (rest : List ℕ) × (line_of l ≡ i ∷ rest)

-- how many are queued
abbrev pub counts_queued : ℕ → ℕ
counts_queued state = if nat_eq state 1 then 1 else 0

abbrev pub queued : List ℕ → ℕ
queued states = sum_by counts_queued states

-- how often a number stands in a list
abbrev pub counts_same : ℕ → ℕ → ℕ
counts_same i x = if nat_eq x i then 1 else 0

abbrev pub times : ℕ → List ℕ → ℕ
times i xs = sum_by (counts_same i) xs

-- whoever is queued stands in one queue, once, and nobody else does
pub record IsLineup (l : Lineup) : Type 0 where
  pub classes : length l.queues ≡ 6
  pub known : (i : ℕ) → slice_index l.states i ≤ 2
  pub each : (i : ℕ) → times i (line_of l) ≡ counts_queued (slice_index l.states i)

-- the queues below a class are empty
abbrev pub AreEmptyBelow : List (List ℕ) → ℕ → Type 0
AreEmptyBelow queues class = (k : ℕ) → k < class → slice_index_or queues k [] ≡ []

-- an agenda whose lowest class in which any may be queued is known
pub record IsAgenda (states : List ℕ) (queues : List (List ℕ)) (lowest : ℕ) : Type 0 where
  pub lineup : IsLineup (record { states = states; queues = queues })
  pub below : AreEmptyBelow queues lowest

-- nothing is queued
abbrev pub IsAtRest : List ℕ → Type 0
IsAtRest states = (i : ℕ) → (slice_index states i ≡ 0) ⊎ (slice_index states i ≡ 2)

-- the place of a class among the queues
abbrev pub class_of : Cost → ℕ
class_of Unary = 0
class_of Binary = 1
class_of Ternary = 2
class_of Linear = 3
class_of Quadratic = 4
class_of Cubic = 5

-- ---- changes

abbrev pub IsIdle : Lineup → ℕ → Type 0
IsIdle l i = (i < length l.states) × (slice_index l.states i ≡ 0)

-- one that was idle stands at the end of the queue of a class
pub record IsQueued (class place : ℕ) (l m : Lineup) : Type 0 where
  pub inside : class < length l.queues
  pub states : m.states ≡ slice_set l.states place 1
  pub queues : m.queues ≡ slice_set l.queues class (queue_at l class ++ place ∷ [])

-- the queues without the first of the cheapest class that has any
abbrev pub without_first : List (List ℕ) → List (List ℕ)
without_first [] = []
without_first ([] ∷ queues) = [] ∷ without_first queues
without_first ((i ∷ queue) ∷ queues) = queue ∷ queues

-- the first is gone, and its queue goes on without it
pub record IsGone (place : ℕ) (l m : Lineup) : Type 0 where
  pub states : m.states ≡ slice_set l.states place 2
  pub queues : m.queues ≡ without_first l.queues

-- the same, the first at rest
abbrev pub rested : ℕ → Lineup → Lineup
rested place l = lineup (slice_set l.states place 0) (without_first l.queues)

-- none of these is idle
abbrev pub AreAwake : List ℕ → List ℕ → Type 0
AreAwake states places = AllByRecursion (λ (i : ℕ). i < length states → slice_index states i ≡ 0 → ⊥) places

abbrev pub cost_at : List Cost → ℕ → Cost
cost_at costs i = slice_index_or costs i Cubic

-- Each is as it was, or was idle, is among those that may be woken, and is queued; each queue is what it was, and then some of its
-- class.
pub record IsWoken (may : ℕ → Type 0) (costs : List Cost) (l m : Lineup) : Type 0 where
  pub size : length m.states ≡ length l.states
  pub each : (i : ℕ) → (slice_index m.states i ≡ slice_index l.states i) ⊎ ((slice_index l.states i ≡ 0) × (slice_index m.states i ≡ 1) × may i)
  pub queues : (class : ℕ) → (more : List ℕ) × (queue_at m class ≡ queue_at l class ++ more) × AllByRecursion (λ (i : ℕ). class_of (cost_at costs i) ≡ class) more
