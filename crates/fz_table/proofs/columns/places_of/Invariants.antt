use Rattle.fz_table.proofs.Building.{ArePlacedBelow}
use Rattle.fz_table.proofs.columns.places_of.Given as goal

-- the rows so far are placed
abbrev pub invariant-loop-row : goal.invariant-loop-row
invariant-loop-row l = ArePlacedBelow l.table l.width l.place l.places.items l.row
