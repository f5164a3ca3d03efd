use Rattle.fz_column.proofs.Finding.{AreGathering}
use Rattle.fz_column.proofs.Walking.{AreAhead}
use Rattle.fz_column.proofs.column.Column.numbers_in.Given as goal

-- the numbers of the ranges so far
abbrev pub invariant-loop-low : goal.invariant-loop-low
invariant-loop-low l = AreGathering l.self l.rows l.dom l.low-iterator l.numbers × AreAhead l.self l.place l.low-iterator
