-- What a split of a model into parts is.
use Rattle.std.specs.Prelude.{◌≡◌, ℕ, ℤ, ◌<◌, ◌≤◌, List, length, IsTrue}
use Rattle.std.specs.List.{AllByRecursion}
use Rattle.fz_spec.specs.Instance.{Instance, Satisfies}
use Rattle.fz_tree.specs.declared.decision.Decision.{Decision}
use Rattle.fz_part.specs.Parts.{IsPartOf, is_in_part, AreParts}

-- no two satisfying assignments are in the part
abbrev pub IsSingle : Instance → List Decision → Type 0
IsSingle m p = (a b : List ℤ) → Satisfies m a → Satisfies m b → IsTrue (is_in_part a p) → IsTrue (is_in_part b p) → a ≡ b

-- Parts of a model, at most so many. Where there are fewer, nothing is left to divide: no part has two satisfying assignments. So of a
-- model that no assignment satisfies there may be none, and `var 1..3: x` is split into 0=1, 0!=1,0=2 and 0!=1,0!=2 by its first plan
-- where at most three parts are asked for, or more.
pub record IsSplit (m : Instance) (most : ℕ) (ps : List (List Decision)) : Type 0 where
  pub parts : AreParts m ps
  pub of_model : AllByRecursion (IsPartOf m) ps
  pub few : length ps ≤ most
  pub divided : length ps < most → AllByRecursion (IsSingle m) ps
