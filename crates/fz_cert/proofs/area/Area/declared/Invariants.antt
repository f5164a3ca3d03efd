use Rattle.std.proofs.Common.{◌≡◌, take, count_by, length}
use Rattle.fz_refutes.specs.Boxes.{AreSets, declared_box}
use Rattle.fz_cert.specs.Areas.{has_no_number}
use Rattle.fz_cert.proofs.area.Area.declared.Given as goal

-- the sets so far
abbrev pub invariant-loop-variable : goal.invariant-loop-variable
invariant-loop-variable l = record { same : l.sets.items ≡ declared_box (take l.variable-index l.variables); are : AreSets l.sets.items; count : l.empty ≡ count_by has_no_number l.sets.items; length : length l.sets.items ≡ l.variable-index }
