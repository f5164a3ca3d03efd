-- A set of the variables of the output.
use Rattle.std.specs.Prelude.{◌≡◌, ◌↔◌, ℕ, ◌<◌, IsTrue, List, length}
use Rattle.fz_spec.specs.Instance.{Instance}
use Rattle.fz_bits.specs.Members.{HasMember, words_for}
use Rattle.fz_tree.specs.Rows.{is_shown}

-- with room for all variables
pub record AreTheShown (m : Instance) (set : List ℕ) : Type 0 where
  pub members : (v : ℕ) → v < length m.variables → HasMember set v ↔ IsTrue (is_shown m v)
  pub size : length set ≡ words_for (length m.variables)
