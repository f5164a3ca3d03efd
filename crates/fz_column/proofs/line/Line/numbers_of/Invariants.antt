use Rattle.fz_column.proofs.Lines.{AreNumbersOfTaken}
use Rattle.fz_column.proofs.line.Line.numbers_of.Given as goal

-- the numbers that were taken and that the rows have
abbrev pub invariant-numbers : goal.invariant-numbers
invariant-numbers l = AreNumbersOfTaken l.self l.numbers l.rows l.left l.found

abbrev pub decreases-numbers : goal.decreases-numbers
decreases-numbers l = l.left
