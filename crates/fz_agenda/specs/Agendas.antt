-- What holds while the propagators of a space run: which are idle, queued or gone.
use Rattle.std.specs.Prelude.{◌≡◌, ◌⊎◌, Bool, ℕ, ℤ, ◌<◌, List, slice_get, slice_index, slice_set, Some, length}
use Rattle.std.specs.List.{AllByRecursion}
use Rattle.fz_spec.specs.declared.term.Term.{Term}
use Rattle.fz_strength.specs.Events.{Wait, level}
use Rattle.fz_strength.specs.Sayings.{Saying, line_of}
use Rattle.fz_strength.specs.Promises.{RestsForGood}
use Rattle.fz_prop.specs.Stores.{Stored, IsStore, Shrinks, mark_at, without_first}
use Rattle.fz_agenda.specs.Watches.{IsSeen, Looks, steady_waits}

-- the marks show no change that is waited for
abbrev pub AreUnmarked : List Wait → Stored → Type 0
AreUnmarked ws s = AllByRecursion (λ (w : Wait). mark_at s w.variable < level w.event) ws

-- nor a change of a variable that is looked at now
abbrev pub IsUnmarkedWhere : Saying → Stored → ℕ → Type 0
IsUnmarkedWhere saying s v = (t : Term) (n : ℤ) (left : Bool) → Looks saying v t n left → IsSeen left s.doms t n → mark_at s v ≡ 0

-- the marks show no change that may break its line
pub record IsUnmarked (saying : Saying) (s : Stored) : Type 0 where
  pub steady : AreUnmarked (steady_waits saying) s
  pub watched : (v : ℕ) → IsUnmarkedWhere saying s v

-- States: 0 idle, 1 queued, 2 gone. Each idle propagator's line holds unless a change that may break it is marked; the line of one
-- that is gone holds for good.
pub record IsSettled (sayings : List Saying) (states : List ℕ) (s : Stored) : Type 0 where
  pub size : length states ≡ length sayings
  pub idle : (i : ℕ) (saying : Saying) → slice_get sayings i ≡ Some saying → slice_index states i ≡ 0 → IsUnmarked saying s → line_of saying s.doms
  pub gone : (i : ℕ) (saying : Saying) → slice_get sayings i ≡ Some saying → slice_index states i ≡ 2 → RestsForGood saying s.doms

-- what was settled stays so as the store gets narrower, whoever narrows it
abbrev pub SettledLasts : Type 0
SettledLasts = (sayings : List Saying) (states : List ℕ) (s t : Stored) → IsStore t → Shrinks s t → IsSettled sayings states s → IsSettled sayings states t

-- where nothing is queued and nothing is marked, every line holds
abbrev pub AllRestAtRest : Type 0
AllRestAtRest = (sayings : List Saying) (states : List ℕ) (s : Stored) → IsStore s → ((v : ℕ) → mark_at s v ≡ 0) → ((i : ℕ) → slice_index states i ≡ 0 ⊎ slice_index states i ≡ 2)
    → IsSettled sayings states s → (i : ℕ) (saying : Saying) → slice_get sayings i ≡ Some saying → line_of saying s.doms

-- narrowing twice is narrowing
abbrev pub ShrinksTwice : Type 0
ShrinksTwice = (r s t : Stored) → Shrinks r s → Shrinks s t → Shrinks r t

-- ---- what happens to a propagator

-- one whose line holds may be idle, and one whose line holds for good may be gone
abbrev pub MayBeIdle : Type 0
MayBeIdle = (sayings : List Saying) (states : List ℕ) (s : Stored) (i : ℕ) (saying : Saying) → IsSettled sayings states s → slice_get sayings i ≡ Some saying → i < length states
    → line_of saying s.doms → IsSettled sayings (slice_set states i 0) s

abbrev pub MayBeGone : Type 0
MayBeGone = (sayings : List Saying) (states : List ℕ) (s : Stored) (i : ℕ) (saying : Saying) → IsSettled sayings states s → slice_get sayings i ≡ Some saying → i < length states
    → RestsForGood saying s.doms → IsSettled sayings (slice_set states i 2) s

-- any may be queued
abbrev pub MayBeQueued : Type 0
MayBeQueued = (sayings : List Saying) (states : List ℕ) (s : Stored) (i : ℕ) → IsSettled sayings states s → i < length states → IsSettled sayings (slice_set states i 1) s

-- the mark of a variable shows none
pub record IsUnmarkedAt (saying : Saying) (s : Stored) (v : ℕ) : Type 0 where
  pub steady : AllByRecursion (λ (w : Wait). w.variable ≡ v → mark_at s v < level w.event) (steady_waits saying)
  pub watched : IsUnmarkedWhere saying s v

-- no idle one waits for a change of a variable that its mark shows
abbrev pub AreWoken : List Saying → List ℕ → Stored → ℕ → Type 0
AreWoken sayings states s v = (i : ℕ) (saying : Saying) → slice_get sayings i ≡ Some saying → slice_index states i ≡ 0 → IsUnmarkedAt saying s v

-- once all that wait for it are woken, a changed variable may be taken from the list
abbrev pub MayBeTaken : Type 0
MayBeTaken = (sayings : List Saying) (states : List ℕ) (s : Stored) (v : ℕ) (rest : List ℕ) → IsSettled sayings states s → AreWoken sayings states s v
    → IsSettled sayings states (without_first s v rest)
