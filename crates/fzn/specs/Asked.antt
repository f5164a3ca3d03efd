-- What is printed of a model, by what is asked for: the parts of a split, the run of a part, or the run of the model.
use Rattle.std.specs.Prelude.{◌≡◌, ◌≢◌, ℕ, ◌≤◌, ◌<◌, ℤ, Option, Some, None, List, ◌++◌, codes, flat_map, length}
use Rattle.fz_spec.specs.Instance.{Instance}
use Rattle.fz_spec.specs.declared.goal.Goal.{Goal}
use Rattle.fz_spec.specs.declared.goal.Goal.TheVariants.{Satisfy, Minimize, Maximize}
use Rattle.fz_spec.specs.declared.limits.TheConstants.{CONSTRAINT_LIMIT}
use Rattle.fz_tree.specs.declared.decision.Decision.{Decision}
use Rattle.fz_part.specs.Parts.{IsPartOf, task_of}
use Rattle.fz_part.specs.Texts.{part_text, Refuses}
use Rattle.fz_split.specs.Splits.{IsSplit}
use Rattle.fz_cmd.specs.Meaning.{Options}
use Rattle.fz_runs.specs.Runs.{IsRunText}
use Rattle.fz_runs.specs.PartRuns.{IsPartRun}
use Rattle.fzn.specs.declared.status.Misfit.{Misfit}
use Rattle.fzn.specs.declared.status.Misfit.TheVariants.{NoPart, NoGoal, TooMany}

-- ---- a split

-- a line for each part, which is empty for the model itself
abbrev pub split_line : List Decision → List ℕ
split_line p = part_text p ++ codes "\n"

abbrev pub split_text : List (List Decision) → List ℕ
split_text ps = flat_map split_line ps

-- parts that a model is split into, at most so many, in the order in which they are printed
pub record IsSplitText (m : Instance) (most : ℕ) (printed : List ℕ) : Type 0 where
  pub parts : List (List Decision)
  pub split : IsSplit m most parts
  pub text : printed ≡ split_text parts

-- ---- a part

-- something better than a value is sought of a model with a goal alone
abbrev pub SuitsGoal : Option ℤ → Goal → Type 0
SuitsGoal None goal = Unit {0}
SuitsGoal (Some v) Satisfy = ⊥
SuitsGoal (Some v) (Minimize term) = Unit {0}
SuitsGoal (Some v) (Maximize term) = Unit {0}

abbrev pub IsWithinLimit : Instance → Type 0
IsWithinLimit m = length m.constraints ≤ CONSTRAINT_LIMIT

-- The text is of a part of the model, and there is a goal where something better than a value is sought. With their constraints the model
-- has no more than a model may have.
pub record HasTask (m : Instance) (text : List ℕ) (better : Option ℤ) : Type 0 where
  pub part : List Decision
  pub of_model : IsPartOf m part
  pub is : part_text part ≡ text
  pub goal : SuitsGoal better m.goal
  pub few : IsWithinLimit (task_of m part better)

-- the run of the part that has the text
pub record IsRunOfPart (m : Instance) (text : List ℕ) (o : Options) (printed : List ℕ) : Type 0 where
  pub task : HasTask m text o.better
  pub listed : List (List ℤ)
  pub run : IsPartRun m task.part o.better o listed printed

-- the part of that text has too many decisions
pub record IsOverLimit (m : Instance) (text : List ℕ) (better : Option ℤ) : Type 0 where
  pub part : List Decision
  pub of_model : IsPartOf m part
  pub is : part_text part ≡ text
  pub many : CONSTRAINT_LIMIT < length (task_of m part better).constraints

-- what is wrong with a part, or with the value that is to be bettered
abbrev pub Says : Misfit → Instance → List ℕ → Option ℤ → Type 0
Says (NoPart refusal) m text better = Refuses refusal m text
Says NoGoal m text better = (m.goal ≡ Satisfy) × (better ≢ None)
Says TooMany m text better = IsOverLimit m text better

pub record LacksTask (misfit : Misfit) (m : Instance) (text : List ℕ) (better : Option ℤ) : Type 0 where
  pub says : Says misfit m text better
  pub none : HasTask m text better → ⊥

-- ---- by what is asked for

abbrev pub PrintsAsked : Option (List ℕ) → Option ℕ → Instance → Options → List ℕ → Type 0
PrintsAsked (Some text) split m o printed = IsRunOfPart m text o printed
PrintsAsked None (Some most) m o printed = IsSplitText m most printed
PrintsAsked None None m o printed = (listed : List (List ℤ)) × IsRunText m o listed printed
