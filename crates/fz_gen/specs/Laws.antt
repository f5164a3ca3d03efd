-- What holds of each generated text.
use Rattle.std.specs.Prelude.{◌≡◌, ℕ, ◌+◌, ◌≤◌, List, length}
use Rattle.fz_spec.specs.declared.goal.Goal.TheVariants.{Maximize}
use Rattle.fz_spec.specs.declared.term.Term.TheVariants.{Var}
use Rattle.fz_spec.specs.Instance.{Instance}
use Rattle.fz_language.specs.Reads.{Reads, Accepted}
use Rattle.fz_gen.specs.Knapsack.{knapsack}
use Rattle.fz_gen.specs.declared.text.TheConstants.{ITEMS_LEAST, ITEMS_MOST}

-- a text is read as a model with that many variables before its last one, which is to be as great as can be
pub record IsMaximized (text : List ℕ) (before : ℕ) : Type 0 where
  pub model : Instance
  pub accepted : Reads text (Accepted model)
  pub count : length model.variables ≡ before + 1
  pub goal : model.goal ≡ Maximize (Var before)

-- the text of each number of items is: a variable for each of them stands before the last
abbrev pub EachIsAccepted : Type 0
EachIsAccepted = (n : ℕ) → ITEMS_LEAST ≤ n → n ≤ ITEMS_MOST → IsMaximized (knapsack n) n
