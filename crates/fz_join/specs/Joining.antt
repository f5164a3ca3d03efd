-- What a join answers.
use Rattle.std.specs.Prelude.{◌≡◌, ◌≢◌, ◌⊎◌, ℕ, Bool, Result, Ok, Err, List, [], ◌∷◌, ◌++◌, IsSomeAnd, slice_get, codes, flat_map}
use Rattle.std.specs.List.{AllByRecursion}
use Rattle.fz_spec.specs.Instance.{Instance, Output}
use Rattle.fz_tree.specs.declared.decision.Decision.{Decision}
use Rattle.fz_part.specs.Parts.{AreParts}
use Rattle.fz_part.specs.Texts.{part_text}
use Rattle.fz_shown.specs.Shown.{IsSolutionText, ShowsAll}
use Rattle.fz_join.specs.Joins.{ArePartsOf, Ran, AreRuns, times_run, IsFound, AreReached, IsJoined}
use Rattle.fz_join.specs.declared.lack.Lack.{Lack}
use Rattle.fz_join.specs.declared.lack.Lack.TheVariants.{CutOff, Part, Bound, NoSolution}

-- ---- blocks

-- no byte of it ends a line
abbrev pub IsLine : List ℕ → Type 0
IsLine bytes = AllByRecursion (λ byte. byte ≢ 10) bytes

-- A text begins with a line that an item's name and an equal sign begin.
pub record BeginsWith (o : Output) (Rest : List ℕ → Type 0) (text : List ℕ) : Type 0 where
  pub value : List ℕ
  pub line : IsLine value
  pub rest : List ℕ
  pub is : text ≡ (o.name ++ codes " = ") ++ (value ++ 10 ∷ rest)
  pub later : Rest rest

-- a line for each item, and ten dashes
abbrev pub HasItems : List Output → List ℕ → Type 0
HasItems [] text = text ≡ codes "----------\n"
HasItems (o ∷ os) text = BeginsWith o (HasItems os) text

-- Nothing but such blocks, so no line of it says that a search is complete.
pub record AreBlocks (m : Instance) (text : List ℕ) : Type 0 where
  pub blocks : List (List ℕ)
  pub each : AllByRecursion (HasItems m.outputs) blocks
  pub is : text ≡ flat_map (λ block. block) blocks

-- Nothing but blocks of assignments that satisfy the model.
pub record AreSolutions (m : Instance) (text : List ℕ) : Type 0 where
  pub blocks : List (List ℕ)
  pub each : AllByRecursion (IsSolutionText m) blocks
  pub is : text ≡ flat_map (λ block. block) blocks

-- nothing, or the line that ends a search that is complete
abbrev pub IsClosing : List ℕ → Type 0
IsClosing text = (text ≡ []) ⊎ ((text ≡ codes "==========\n") ⊎ (text ≡ codes "=====UNSATISFIABLE=====\n"))

-- Blocks of assignments that satisfy the model, and then nothing or a closing line.
pub record AreClosed (m : Instance) (text : List ℕ) : Type 0 where
  pub solutions : List ℕ
  pub are : AreSolutions m solutions
  pub closing : List ℕ
  pub is_closing : IsClosing closing
  pub is : text ≡ solutions ++ closing

-- ---- a join

-- Of what is joined: the model, whether all solutions are asked for, the parts, what was read, and what is printed.
pub record Joining : Type 0 where
  pub model : Instance
  pub all : Bool
  pub parts : List (List Decision)
  pub read : List ℕ
  pub printed : List ℕ

-- some runs have these texts
pub record HaveRun (j : Joining) (rs : List Ran) : Type 0 where
  pub of_model : ArePartsOf j.model j.parts
  pub runs : AreRuns j.model j.all j.parts rs j.read

-- the part of that place hasn't run once, and it is needed
pub record Lacks (j : Joining) (place : ℕ) (rs : List Ran) : Type 0 where
  pub times : IsSomeAnd (slice_get j.parts place) (λ p. times_run rs (part_text p) ≡ 1 → ⊥)
  pub needed : IsFound j.model j.all rs → ⊥

-- what lacks, of texts that runs printed
abbrev pub Says : Lack → Joining → List Ran → Type 0
Says CutOff j rs = ⊥
Says (Part place) j rs = Lacks j place rs
Says Bound j rs = AreReached j.model rs → ⊥
Says NoSolution j rs = ⊥

-- What the answer says of runs that printed what was read, where this is printed in all.
abbrev pub Answers : Result (Unit {0}) Lack → Joining → List ℕ → List Ran → Type 0
Answers (Ok done) j printed rs = AreParts j.model j.parts → IsJoined j.model j.all printed
Answers (Err lack) j printed rs = Says lack j rs

-- nothing more is printed where something lacks
abbrev pub IsQuiet : Result (Unit {0}) Lack → List ℕ → Type 0
IsQuiet (Ok done) more = Unit {0}
IsQuiet (Err lack) more = more ≡ []

-- What is printed in all, of a model of which each variable is shown.
abbrev pub IsSound : Result (Unit {0}) Lack → Instance → List ℕ → Type 0
IsSound (Ok done) m printed = AreClosed m printed
IsSound (Err lack) m printed = AreSolutions m printed

-- A piece is read, and what is to be printed by then is appended to a text.
pub record Reads (piece : List ℕ) (before after : Joining) (text_before text_after : List ℕ) : Type 0 where
  pub more : List ℕ
  pub text : text_after ≡ text_before ++ more
  pub is : after ≡ record { model = before.model; all = before.all; parts = before.parts; read = before.read ++ piece; printed = before.printed ++ more }

-- The join ends: what is left to be printed is appended to a text. Blocks alone were printed before, and where each variable is shown, blocks
-- of solutions alone.
pub record Ends (answer : Result (Unit {0}) Lack) (j : Joining) (text_before text_after : List ℕ) : Type 0 where
  pub more : List ℕ
  pub text : text_after ≡ text_before ++ more
  pub quiet : IsQuiet answer more
  pub blocks : AreBlocks j.model j.printed
  pub sound : ShowsAll j.model → IsSound answer j.model (j.printed ++ more)
  pub answers : (rs : List Ran) → HaveRun j rs → Answers answer j (j.printed ++ more) rs
