use Rattle.std.proofs.Common.{◌≡◌, take}
use Rattle.fz_spec.specs.Constraints.{term_values}
use Rattle.fz_truth.proofs.table.is_row.Given as goal

-- the values so far are those of the row
abbrev pub invariant-loop-i : goal.invariant-loop-i
invariant-loop-i l = term_values l.values (take l.i l.terms) ≡ take l.i l.row
