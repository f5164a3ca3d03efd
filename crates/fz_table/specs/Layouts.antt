-- What a table is looked at by: the pairs of its rows, or its columns.
use Rattle.std.specs.Prelude.{◌≡◌, ℤ, List, length, IsTrue}
use Rattle.fz_spec.specs.declared.term.Term.{Term}
use Rattle.fz_table.specs.declared.layout.Layout.{Layout}
use Rattle.fz_table.specs.declared.layout.Layout.TheVariants as layout
use Rattle.fz_table.specs.Partners.{ArePairsOf}
use Rattle.fz_column.specs.Apart.{AreApart}
use Rattle.fz_column.specs.Supports.{AreColumnsOf}

abbrev pub IsLayoutOf : Layout → List Term → List ℤ → Type 0
IsLayoutOf (layout.Pairs pairs) terms table = ArePairsOf table pairs × (length terms ≡ 2)
IsLayoutOf (layout.Columns columns differ) terms table = AreColumnsOf table (length terms) columns.items × (IsTrue differ → AreApart terms)
