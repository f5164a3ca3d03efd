-- Columns whose numbers are among 64 that follow one another.
use Rattle.std.specs.Prelude.{◌≡◌, ◌<◌, ◌↔◌, ℕ, ℤ, pos, ◌+ℤ◌, List}
use Rattle.fz_column.specs.declared.grid.Grid.{Grid}
use Rattle.fz_column.specs.Grids.{HasRow, IsWhole}
use Rattle.fz_prop.specs.Matching.{HasRoom}
use Rattle.fz_column.specs.declared.supports.Support.{Support}
use Rattle.fz_column.specs.declared.dense.Dense.{Dense}
use Rattle.fz_column.specs.Supports.{HasNumber}

-- a row has a number from a base on
abbrev pub HasRowAt : ℤ → Grid → ℤ → ℕ → Type 0
HasRowAt base grid n i = (k : ℕ) × (k < 64) × (n ≡ base +ℤ pos k) × HasRow grid k i

-- it has the numbers and rows of a column
pub record IsDenseOf (dense : Dense) (column : List Support) : Type 0 where
  pub whole : IsWhole dense.grid
  pub room : HasRoom dense.base
  pub rows : (n : ℤ) (i : ℕ) → HasNumber column n i ↔ HasRowAt dense.base dense.grid n i
