use Rattle.std.proofs.Common.{◌≡◌}
use Rattle.fz_bits.specs.Windows.{IsBit}
use Rattle.fz_column.proofs.Packing.{AreNumbersBelow}
use Rattle.fz_column.proofs.packed.Packed.numbers_within.Given as goal

-- the numbers so far
abbrev pub invariant-loop-numbered : goal.invariant-loop-numbered
invariant-loop-numbered l = record {
  base : l.numbers.base ≡ l.fn.window.base;
  numbers : AreNumbersBelow l.self l.rows (λ n. IsBit l.fn.window.base l.fn.window.bits n) (λ n. IsBit l.fn.window.base l.numbers.bits n) l.numbered-index;
}
