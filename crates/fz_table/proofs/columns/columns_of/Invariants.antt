use Rattle.fz_table.proofs.Building.{AreColumnsBelow}
use Rattle.fz_table.proofs.columns.columns_of.Given as goal

-- the columns so far
abbrev pub invariant-loop-place : goal.invariant-loop-place
invariant-loop-place l = AreColumnsBelow l.table l.width l.columns.items l.place
