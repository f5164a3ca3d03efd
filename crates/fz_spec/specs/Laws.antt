-- Laws that the definitions keep.
use Rattle.std.specs.Prelude.{ℤ, List, [], ◌↔◌}
use Rattle.fz_spec.specs.Instance.{Instance, Satisfies, AreDeclared, Lists}

-- a satisfying assignment is declared
abbrev pub SatisfyingIsDeclared : Type 0
SatisfyingIsDeclared = (m : Instance) (a : List ℤ) → Satisfies m a → AreDeclared m.variables a

-- the empty list lists a model's satisfying assignments exactly where there is none
abbrev pub NothingListed : Type 0
NothingListed = (m : Instance) → Lists m [] ↔ ((a : List ℤ) → Satisfies m a → ⊥)
