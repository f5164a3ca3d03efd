-- Plans, and what is chosen by one.
use Rattle.std.specs.Prelude.{◌≡◌, ℕ, ◌<◌, ◌≤◌, ℤ, Bool, true, List, [], ◌∷◌, ◌++◌, length, map, Option, Some, None, slice_index, slice_index_or}
use Rattle.std.specs.List.{AllZip, Any, Contains, range_with_len, filter}
use Rattle.fz_spec.specs.declared.search.Pick.{Pick}
use Rattle.fz_spec.specs.declared.search.Pick.TheVariants.{InputOrder, FirstFail, AntiFirstFail, Smallest, Largest}
use Rattle.fz_spec.specs.declared.search.Value.{Value}
use Rattle.fz_spec.specs.declared.search.Value.TheVariants.{IndomainMin, IndomainMax, IndomainMedian, IndomainSplit, IndomainReverseSplit}
use Rattle.fz_spec.specs.Instance.{Instance, SearchPart}
use Rattle.fz_tree.specs.declared.decision.Decision.{Decision}
use Rattle.fz_tree.specs.declared.mode.Mode.{Mode}
use Rattle.fz_tree.specs.declared.mode.Mode.TheVariants.{All, Rows, Best}
use Rattle.fz_tree.specs.Rows.{is_shown}
use Rattle.fz_branch.specs.Picks.{IsDone, IsPicked, domain_of}
use Rattle.fz_branch.specs.Values.{choice_of}

-- all variables in order of declaration, the least value first
abbrev pub declared_part : Instance → SearchPart
declared_part m = record { variables = range_with_len 0 (length m.variables); pick = InputOrder; value = IndomainMin }

-- the search parts, and after them all variables
abbrev pub plan_of : Instance → List SearchPart
plan_of m = m.search ++ declared_part m ∷ []

-- ---- of what is printed alone

abbrev pub only_shown : Instance → SearchPart → SearchPart
only_shown m p = record { variables = filter (is_shown m) p.variables; pick = p.pick; value = p.value }

-- the search parts cut down to the variables of the output, and after them all of these
abbrev pub plan_rows : Instance → List SearchPart
plan_rows m = map (only_shown m) m.search ++ only_shown m (declared_part m) ∷ []

-- the plan of a search by what it is after
abbrev pub plan_for : Mode → Instance → List SearchPart
plan_for All m = plan_of m
plan_for Rows m = plan_rows m
plan_for Best m = plan_of m

-- each variable of a model stands in one of the parts
abbrev pub IsPlanOf : Instance → List SearchPart → Type 0
IsPlanOf m ps = (v : ℕ) → v < length m.variables → Any (λ (p : SearchPart). Contains p.variables v) ps

-- ---- of the assets of a portfolio

-- How each asset picks a variable and divides its values, by the number of the asset. The first follows the search parts.
abbrev pub asset_ways : List (Option (Pick × Value))
asset_ways =
    None
    ∷ Some (FirstFail, IndomainMin)
    ∷ Some (FirstFail, IndomainSplit)
    ∷ Some (Smallest, IndomainMin)
    ∷ Some (Largest, IndomainMax)
    ∷ Some (AntiFirstFail, IndomainMedian)
    ∷ Some (InputOrder, IndomainMax)
    ∷ Some (FirstFail, IndomainReverseSplit)
    ∷ []

-- all variables in order of declaration, picked and divided in one way
abbrev pub plan_by : Instance → Option (Pick × Value) → List SearchPart
plan_by m None = plan_of m
plan_by m (Some way) = record { variables = range_with_len 0 (length m.variables); pick = way.0; value = way.1 } ∷ []

abbrev pub plan_asset : Instance → ℕ → List SearchPart
plan_asset m asset = plan_by m (slice_index_or asset_ways asset None)

-- ----

-- each variable is at least the one before it
abbrev pub IsRising : List ℕ → Type 0
IsRising vs = (j k : ℕ) → j ≤ k → k < length vs → slice_index vs j ≤ slice_index vs k

-- of each part it is said whether its variables rise; where that is said, they do
abbrev pub AreRising : List Bool → List SearchPart → Type 0
AreRising rises ps = AllZip (λ (b : Bool) (p : SearchPart). b ≡ true → IsRising p.variables) rises ps

-- no variable of a part has more than one value left
abbrev pub AreDone : List (List (ℤ × ℤ)) → List SearchPart → Type 0
AreDone ds [] = Unit {0}
AreDone ds (p ∷ ps) = IsDone ds p.variables × AreDone ds ps

-- The variable that is picked of a part, and the choice by its domain.
pub record IsChosenOf (ds : List (List (ℤ × ℤ))) (p : SearchPart) (choice : List Decision) : Type 0 where
  pub place : ℕ
  pub picked : IsPicked p.pick ds p.variables place
  pub divides : choice ≡ choice_of p.value (slice_index p.variables place) (domain_of ds p.variables place)

-- of the first part that isn't done
pub record IsChosen (ps : List SearchPart) (ds : List (List (ℤ × ℤ))) (choice : List Decision) : Type 0 where
  pub part : ℕ
  pub within : part < length ps
  pub before : (k : ℕ) → k < part → (d : SearchPart) → IsDone ds (slice_index_or ps k d).variables
  pub of_part : (d : SearchPart) → IsChosenOf ds (slice_index_or ps part d) choice
