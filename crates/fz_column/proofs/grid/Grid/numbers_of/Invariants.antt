use Rattle.fz_column.proofs.Grids.{AreFoundBelow}
use Rattle.fz_column.proofs.grid.Grid.numbers_of.Given as goal

-- the numbers that the rows of the lines so far have
abbrev pub invariant-loop-word : goal.invariant-loop-word
invariant-loop-word l = AreFoundBelow l.self l.numbers l.rows l.word l.found
