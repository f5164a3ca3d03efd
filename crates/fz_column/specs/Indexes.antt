-- What the numbers of a column are found by.
use Rattle.std.specs.Prelude.{IfSome, List}
use Rattle.fz_sets.specs.Sets.{IsInSet}
use Rattle.fz_column.specs.declared.supports.Support.{Support}
use Rattle.fz_column.specs.declared.index.Index.{Index}
use Rattle.fz_column.specs.Packed.{ArePacked}
use Rattle.fz_column.specs.Supports.{IsIn, AreEnds}

-- its places come next, each number of the column is in its ranges, and its words have the column's numbers and rows
pub record IsIndexOf (index : Index) (column : List Support) : Type 0 where
  pub ended : AreEnds column index.ends.items
  pub spanned : (s : Support) → IsIn s column → IsInSet index.spans s.number
  pub packed : IfSome index.packed (λ p. ArePacked column p)
