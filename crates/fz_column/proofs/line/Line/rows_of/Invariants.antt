use Rattle.fz_column.proofs.Lines.{AreRowsOfTaken}
use Rattle.fz_column.proofs.line.Line.rows_of.Given as goal

-- the rows of the numbers that were taken
abbrev pub invariant-numbers : goal.invariant-numbers
invariant-numbers l = AreRowsOfTaken l.self l.numbers l.left l.rows

abbrev pub decreases-numbers : goal.decreases-numbers
decreases-numbers l = l.left
