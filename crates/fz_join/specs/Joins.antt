-- What a join makes of the texts that runs of parts printed.
use Rattle.std.specs.Prelude.{◌≡◌, ◌≢◌, ◌⊎◌, ℕ, ◌<◌, ℤ, pos, ◌-ℤ◌, ◌≤ℤ◌, Bool, false, Option, IfSome, List, [], ◌++◌, Contains, codes, count_by, flat_map, bytes_eq}
use Rattle.std.specs.List.{AllByRecursion}
use Rattle.fz_sets.specs.Sets.{IsWithinLimits}
use Rattle.fz_spec.specs.Constraints.{term_value}
use Rattle.fz_spec.specs.Truth.{SomeByRecursion}
use Rattle.fz_spec.specs.declared.goal.Goal.{Goal}
use Rattle.fz_spec.specs.declared.goal.Goal.TheVariants.{Satisfy, Minimize, Maximize}
use Rattle.fz_spec.specs.Instance.{Instance, Output}
use Rattle.fz_tree.specs.declared.decision.Decision.{Decision}
use Rattle.fz_part.specs.Parts.{IsPartOf}
use Rattle.fz_part.specs.Texts.{part_text}
use Rattle.fz_cmd.specs.Meaning.{Options, ArePlain}
use Rattle.fz_runs.specs.Runs.{IsRunText}
use Rattle.fz_runs.specs.PartRuns.{IsPartRun}

-- ---- parts

-- a line for each part, which is empty for the model itself
abbrev pub parts_text : List (List Decision) → List ℕ
parts_text ps = flat_map (λ p. part_text p ++ codes "\n") ps

-- whether a part has this text, by which parts are told apart
abbrev pub is_called : List ℕ → List Decision → Bool
is_called text p = bytes_eq (part_text p) text

-- parts of the model, no two of the same text
pub record ArePartsOf (m : Instance) (ps : List (List Decision)) : Type 0 where
  pub of_model : AllByRecursion (IsPartOf m) ps
  pub different : AllByRecursion (λ p. count_by (is_called (part_text p)) ps ≡ 1) ps

-- ---- runs

-- all solutions are asked for, or one; or a best one
pub record AsksFor (every : Bool) (o : Options) : Type 0 where
  pub plain : ArePlain o
  pub all : o.all ≡ every

-- a run of a part: what it was to better, what it lists and what it printed
pub record Ran : Type 0 where
  pub part : List Decision
  pub bound : Option ℤ
  pub list : List (List ℤ)
  pub text : List ℕ

pub record IsRan (m : Instance) (all : Bool) (r : Ran) : Type 0 where
  pub options : Options
  pub asks : AsksFor all options
  pub bound : IfSome r.bound IsWithinLimits
  pub run : IsPartRun m r.part r.bound options r.list r.text

-- The text is those of these runs, one after another, each of one of the parts.
pub record AreRuns (m : Instance) (all : Bool) (ps : List (List Decision)) (rs : List Ran) (text : List ℕ) : Type 0 where
  pub each : AllByRecursion (IsRan m all) rs
  pub known : AllByRecursion (λ (r : Ran). Contains ps r.part) rs
  pub is : text ≡ flat_map (λ (r : Ran). r.text) rs

-- how many of the runs are of the part that has this text
abbrev pub times_run : List Ran → List ℕ → ℕ
times_run rs text = count_by (λ (r : Ran). is_called text r.part) rs

-- each part has one run
abbrev pub HaveAllRun : List (List Decision) → List Ran → Type 0
HaveAllRun ps rs = AllByRecursion (λ p. times_run rs (part_text p) ≡ 1) ps

-- One solution is asked for, and a run shows one: the other parts aren't needed.
pub record IsFound (m : Instance) (all : Bool) (rs : List Ran) : Type 0 where
  pub goal : m.goal ≡ Satisfy
  pub one : all ≡ false
  pub some : SomeByRecursion (λ (r : Ran). r.list ≢ []) rs

-- ---- bounds

-- A number that is the less the better the value of the goal is.
abbrev pub rank : Goal → ℤ → ℤ
rank Satisfy v = pos 0
rank (Minimize term) v = v
rank (Maximize term) v = pos 0 -ℤ v

-- the value of the goal, by that number
abbrev pub rank_of_goal : Goal → List ℤ → ℤ
rank_of_goal Satisfy a = pos 0
rank_of_goal (Minimize term) a = rank (Minimize term) (term_value a term)
rank_of_goal (Maximize term) a = rank (Maximize term) (term_value a term)

-- one of the runs shows an assignment whose value is at least as good
abbrev pub IsReached : Instance → List Ran → ℤ → Type 0
IsReached m rs v = SomeByRecursion (λ (r : Ran). SomeByRecursion (λ (a : List ℤ). rank_of_goal m.goal a ≤ℤ rank m.goal v) r.list) rs

-- What a run was to better is no better than what the runs show.
abbrev pub AreReached : Instance → List Ran → Type 0
AreReached m rs = AllByRecursion (λ (r : Ran). IfSome r.bound (IsReached m rs)) rs

-- ---- what is joined

-- what a run of the whole model prints
abbrev pub IsJoined : Instance → Bool → List ℕ → Type 0
IsJoined m all printed = (l : List (List ℤ)) × ((o : Options) → AsksFor all o → IsRunText m o l printed)

-- Nothing lacks: one solution is asked for and found; or all parts have run, and nothing better than what is shown was asked for.
pub record HaveWholeRun (m : Instance) (ps : List (List Decision)) (rs : List Ran) : Type 0 where
  pub all_run : HaveAllRun ps rs
  pub reached : AreReached m rs

abbrev pub AreEnough : Instance → Bool → List (List Decision) → List Ran → Type 0
AreEnough m all ps rs = IsFound m all rs ⊎ HaveWholeRun m ps rs

-- ---- names of output items

-- of letters, digits and underscores: no byte up to the digit 0
abbrev pub IsName : List ℕ → Type 0
IsName name = AllByRecursion (λ byte. 47 < byte) name

abbrev pub AreNamed : Instance → Type 0
AreNamed m = AllByRecursion (λ (o : Output). IsName o.name) m.outputs
