-- How many elements of a list that many arguments take.
use Rattle.std.specs.Prelude.{ℕ, zero, suc, ◌+◌, List, [], ◌∷◌}
use Rattle.fz_syntax.specs.declared.annotation.Argument.{Argument}
use Rattle.fz_syntax.specs.Trees.{count_of}

abbrev pub reached : List Argument → ℕ → ℕ
reached [] n = 0
reached (a ∷ rest) zero = 0
reached (a ∷ rest) (suc n) = suc (reached rest (n + count_of a))
