-- Arguments of an annotation that were put after others.
use Rattle.std.specs.Prelude.{◌≡◌, ℕ, List, [], ◌∷◌, ◌++◌, Option, Some, None, drop, length}
use Rattle.fz_language.specs.Trees as trees
use Rattle.fz_syntax.specs.declared.annotation.Argument.{Argument}
use Rattle.fz_syntax.specs.Trees.{before, trees_of, arguments_of}

-- what stands after what stood there
abbrev pub added : List Argument → List Argument → List Argument
added old new = drop (length old) new

-- the first of some
abbrev pub first_in : List trees.Argument → trees.Argument
first_in (a ∷ rest) = a
first_in [] = trees.Text 0

-- the arguments that were added, where there are parentheses around them
abbrev pub called_in : List Argument → Option ℕ → Option trees.Arguments
called_in arguments (Some count) = Some (arguments_of arguments)
called_in arguments None = None

abbrev pub count_in : Option ℕ → ℕ
count_in (Some count) = count
count_in None = 0

-- that many arguments were added, each whole: none of those after them stands inside one
pub record AreAdded (count : ℕ) (old new : List Argument) : Type 0 where
  pub kept : new ≡ old ++ added old new
  pub whole : (behind : List trees.Argument) → before (added old new) behind ≡ trees_of (added old new) ++ behind
  pub number : length (trees_of (added old new)) ≡ count
