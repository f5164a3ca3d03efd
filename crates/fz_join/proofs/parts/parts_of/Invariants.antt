use Rattle.std.proofs.Common.{◌≡◌, ◌++◌, length}
use Rattle.std.specs.List.{AllByRecursion}
use Rattle.fz_part.specs.Parts.{IsPartOf}
use Rattle.fz_join.specs.Joins.{parts_text}
use Rattle.fz_join.proofs.parts.parts_of.Given as goal

-- the lines so far are of these parts
abbrev pub invariant-lines : goal.invariant-lines
invariant-lines l = record { text : l.text ≡ parts_text l.parts.items ++ l.left; of_model : AllByRecursion (IsPartOf l.model) l.parts.items }

abbrev pub decreases-lines : goal.decreases-lines
decreases-lines l = length l.left
