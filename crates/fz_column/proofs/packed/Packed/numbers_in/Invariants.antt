use Rattle.fz_sets.specs.Sets.{IsInSet}
use Rattle.fz_column.proofs.Packing.{AreNumbersBelow}
use Rattle.fz_column.proofs.packed.Packed.numbers_in.Given as goal

-- the numbers so far
abbrev pub invariant-loop-numbered : goal.invariant-loop-numbered
invariant-loop-numbered l = AreNumbersBelow l.self l.rows (IsInSet l.dom) (IsInSet l.numbers) l.numbered-index
