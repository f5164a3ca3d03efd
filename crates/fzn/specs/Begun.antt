-- Solutions that a run may begin with, and what may follow them.
use Rattle.std.specs.Prelude.{◌≡◌, ℕ, ℤ, ◌≤◌, ◌<◌, Bool, true, Option, Some, None, List, ◌++◌, length}
use Rattle.std.specs.List.{AllByRecursion}
use Rattle.fz_spec.specs.declared.goal.Goal.{Goal}
use Rattle.fz_spec.specs.declared.goal.Goal.TheVariants.{Satisfy, Minimize, Maximize}
use Rattle.fz_spec.specs.Instance.{Instance, Satisfies, AreImproving}
use Rattle.fz_spec.specs.Run.{blocks}
use Rattle.fz_model.specs.Kept.{IsModel}
use Rattle.fz_refutes.specs.Texts.{IsHead}
use Rattle.fz_refutes.specs.Makers.{HasNoBetter}
use Rattle.fz_cmd.specs.Meaning.{Options}
use Rattle.fz_runs.specs.Runs.{IsRunText, times_listed, wanted}

-- no more than are asked for, and fewer
abbrev pub IsWithin : Option ℕ → ℕ → Type 0
IsWithin None count = Unit {0}
IsWithin (Some n) count = count ≤ n

abbrev pub IsBelow : Option ℕ → ℕ → Type 0
IsBelow None count = Unit {0}
IsBelow (Some n) count = count < n

-- satisfying assignments, no two of them the same, or with the same row, and no more than are asked for
pub record AreFound (distinct : Bool) (m : Instance) (asked : Option ℕ) (l : List (List ℤ)) : Type 0 where
  pub sound : AllByRecursion (Satisfies m) l
  pub different : (a : List ℤ) → Satisfies m a → times_listed distinct m a l ≤ 1
  pub within : IsWithin asked (length l)

-- satisfying assignments, each better than the one before it, where a run shows all better ones
pub record AreBettered (o : Options) (m : Instance) (l : List (List ℤ)) : Type 0 where
  pub all : o.all ≡ true
  pub read : o.generate ≡ None
  pub sound : AllByRecursion (Satisfies m) l
  pub improving : AreImproving m l

-- what a run may show first, by the goal
abbrev pub AreBegun : Goal → Options → Instance → List (List ℤ) → Type 0
AreBegun Satisfy o m l = AreFound o.distinct m (wanted o) l
AreBegun (Minimize term) o m l = AreBettered o m l
AreBegun (Maximize term) o m l = AreBettered o m l

-- whether something is still to be printed after these: where as many as are asked for are shown, maybe nothing
abbrev pub IsShort : Goal → Options → ℕ → Type 0
IsShort Satisfy o count = IsBelow (wanted o) count
IsShort (Minimize term) o count = Unit {0}
IsShort (Maximize term) o count = Unit {0}

-- bytes that end a run which begins with the blocks of these
pub record CanEnd (o : Options) (m : Instance) (l : List (List ℤ)) : Type 0 where
  pub listed : List (List ℤ)
  pub more : List ℕ
  pub run : IsRunText m o listed (blocks m l ++ more)
  pub some : IsShort m.goal o (length l) → 0 < length more

abbrev pub BegunCanEnd : Type 0
BegunCanEnd = (o : Options) (m : Instance) (l : List (List ℤ)) → IsModel m → AreBegun m.goal o m l → CanEnd o m l

-- what is to be certified holds: an assignment is best, or none satisfies
abbrev pub IsCertifiable : Instance → Option (Option (List ℤ)) → Type 0
IsCertifiable m None = Unit {0}
IsCertifiable m (Some head) = IsHead m head × HasNoBetter m head
