-- The text of a part, as `0=3,5!=2,5<=7,9>4`, and why a text is of no part of a model.
use Rattle.std.specs.Prelude.{◌≡◌, ℕ, ◌^◌, ◌<◌, List, [], ◌∷◌, ◌++◌, None, codes, decimal, flat_map, IsSomeAnd}
use Rattle.std.specs.Fmt.{signed_decimal}
use Rattle.std.specs.List.{AllByRecursion}
use Rattle.fz_spec.specs.Instance.{Instance, Variable}
use Rattle.fz_spec.specs.Truth.{SomeByRecursion}
use Rattle.fz_model.specs.Kept.{kind_at, IsNumberOf}
use Rattle.fz_tree.specs.declared.decision.Comparison.{Comparison}
use Rattle.fz_tree.specs.declared.decision.Comparison.TheVariants.{Equal, NotEqual, AtMost, Above}
use Rattle.fz_tree.specs.declared.decision.Decision.{Decision}
use Rattle.fz_part.specs.Words.{IsWord}
use Rattle.fz_part.specs.declared.refusal.Refusal.{Refusal}
use Rattle.fz_part.specs.declared.refusal.Refusal.TheVariants.{NotAPart, NoVariable, OutOfRange}

abbrev pub sign_of : Comparison → List ℕ
sign_of Equal = codes "="
sign_of NotEqual = codes "!="
sign_of AtMost = codes "<="
sign_of Above = codes ">"

-- "0=3": the number of the variable, in order of declaration from 0, the comparison and the value, each number in decimal
abbrev pub decision_text : Decision → List ℕ
decision_text d = decimal d.variable ++ (sign_of d.comparison ++ signed_decimal d.value)

abbrev pub later_text : Decision → List ℕ
later_text d = codes "," ++ decision_text d

-- the decisions with commas between them; of none the empty text
abbrev pub part_text : List Decision → List ℕ
part_text [] = []
part_text (d ∷ ds) = decision_text d ++ flat_map later_text ds

-- ---- why a text is refused

-- a decision with numbers of 32 bits
pub record IsWritten (d : Decision) : Type 0 where
  pub variable : d.variable < 2 ^ 32
  pub value : IsWord d.value

-- decisions have the text, and one of them is so
pub record HasDecision (So : Decision → Type 0) (text : List ℕ) : Type 0 where
  pub part : List Decision
  pub is : part_text part ≡ text
  pub some : SomeByRecursion So part

-- What a refusal says of a decision: the model lacks its variable, or the variable can't have its number.
abbrev pub IsWrong : Refusal → List Variable → Decision → Type 0
IsWrong NotAPart vs d = ⊥
IsWrong NoVariable vs d = kind_at vs d.variable ≡ None
IsWrong OutOfRange vs d = IsSomeAnd (kind_at vs d.variable) (λ kind. IsNumberOf kind d.value → ⊥)

-- What it says of a text: no decisions with numbers of 32 bits have it; or some have, and one of them is wrong.
abbrev pub Refuses : Refusal → Instance → List ℕ → Type 0
Refuses NotAPart m text = (p : List Decision) → AllByRecursion IsWritten p → part_text p ≡ text → ⊥
Refuses refusal m text = HasDecision (IsWrong refusal m.variables) text
