-- Models of which each variable is shown, and the blocks of their solutions.
use Rattle.std.specs.Prelude.{◌≡◌, ℕ, ℤ, ◌<◌, IsTrue, List, length}
use Rattle.fz_spec.specs.Instance.{Instance, Satisfies}
use Rattle.fz_spec.specs.Run.{block}
use Rattle.fz_tree.specs.Rows.{is_shown}

-- each variable is a term of an output item
abbrev pub ShowsAll : Instance → Type 0
ShowsAll m = (v : ℕ) → v < length m.variables → IsTrue (is_shown m v)

-- the text is the block of an assignment that satisfies the model
pub record IsSolutionText (m : Instance) (text : List ℕ) : Type 0 where
  pub assignment : List ℤ
  pub satisfies : Satisfies m assignment
  pub is_block : text ≡ block m assignment
