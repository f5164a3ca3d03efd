use Rattle.fz_column.proofs.Packing.{AreMet}
use Rattle.fz_column.proofs.packed.Packed.has_all.Given as goal

-- the numbers below the next have rows
abbrev pub invariant-loop-numbered : goal.invariant-loop-numbered
invariant-loop-numbered l = AreMet l.self l.rows l.low l.high l.next
