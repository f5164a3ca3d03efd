use Rattle.fz_bits.specs.Windows.{IsBit}
use Rattle.fz_column.proofs.Packing.{AreRowsBelow}
use Rattle.fz_column.proofs.packed.Packed.join_window.Given as goal

-- the rows of the numbers so far are put in
abbrev pub invariant-loop-numbered : goal.invariant-loop-numbered
invariant-loop-numbered l = AreRowsBelow l.self (λ n. IsBit l.fn.window.base l.fn.window.bits n) l.initial.rows l.rows l.numbered-index
