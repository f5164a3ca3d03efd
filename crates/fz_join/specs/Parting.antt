-- Where a text isn't that of parts.
use Rattle.std.specs.Prelude.{◌≡◌, ◌≢◌, ℕ, suc, Option, Some, None, List, [], ◌++◌, codes, length}
use Rattle.std.specs.List.{AllByRecursion}
use Rattle.fz_spec.specs.Instance.{Instance}
use Rattle.fz_tree.specs.declared.decision.Decision.{Decision}
use Rattle.fz_part.specs.Parts.{IsPartOf}
use Rattle.fz_part.specs.Texts.{part_text, Refuses}
use Rattle.fz_part.specs.declared.refusal.Refusal.{Refusal}
use Rattle.fz_join.specs.Joining.{IsLine}
use Rattle.fz_join.specs.Joins.{parts_text}

-- The lines before that one, counted from 1, are of parts of the model, and that one is not.
pub record IsMisplaced (m : Instance) (text : List ℕ) (line : ℕ) : Type 0 where
  pub front : List (List Decision)
  pub of_model : AllByRecursion (IsPartOf m) front
  pub place : line ≡ suc (length front)
  pub rest : List ℕ
  pub is : text ≡ parts_text front ++ rest
  pub some : rest ≢ []
  pub other : (p : List Decision) (more : List ℕ) → IsPartOf m p → rest ≡ part_text p ++ (codes "\n" ++ more) → ⊥

-- ---- why

-- a text begins with a line that is refused so
pub record IsRefused (refusal : Refusal) (m : Instance) (text : List ℕ) : Type 0 where
  pub line : List ℕ
  pub is_line : IsLine line
  pub more : List ℕ
  pub is : text ≡ line ++ (codes "\n" ++ more)
  pub refused : Refuses refusal m line

-- it has no line that is ended, or begins with one that is refused so
abbrev pub IsReason : Option Refusal → Instance → List ℕ → Type 0
IsReason None m text = IsLine text
IsReason (Some refusal) m text = IsRefused refusal m text

-- That is so of what stands from that line on, where those before it are of so many parts.
pub record HasReason (refusal : Option Refusal) (m : Instance) (text : List ℕ) (line : ℕ) : Type 0 where
  pub front : List (List Decision)
  pub place : line ≡ suc (length front)
  pub rest : List ℕ
  pub is : text ≡ parts_text front ++ rest
  pub reason : IsReason refusal m rest
