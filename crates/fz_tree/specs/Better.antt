-- Modes, and which assignments are better than what is known.
use Rattle.std.specs.Prelude.{◌≡◌, ◌≢◌, ℤ, List, Option, Some, None}
use Rattle.fz_spec.specs.declared.goal.Goal.{Goal}
use Rattle.fz_spec.specs.declared.goal.Goal.TheVariants.{Satisfy}
use Rattle.fz_spec.specs.Instance.{Instance, IsBetter}
use Rattle.fz_tree.specs.declared.mode.Mode.{Mode}
use Rattle.fz_tree.specs.declared.mode.Mode.TheVariants.{All, Rows, Best}

-- Where there is no goal but to satisfy, all are sought, or each row; else one that none betters.
abbrev pub IsModeOf : Goal → Mode → Type 0
IsModeOf goal All = goal ≡ Satisfy
IsModeOf goal Rows = goal ≡ Satisfy
IsModeOf goal Best = goal ≢ Satisfy

-- Where nothing is known, each assignment betters it.
abbrev pub Betters : Instance → List ℤ → Option (List ℤ) → Type 0
Betters m a None = Unit {0}
Betters m a (Some known) = IsBetter m a known
