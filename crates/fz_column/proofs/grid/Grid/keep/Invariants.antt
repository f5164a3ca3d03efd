use Rattle.fz_column.proofs.Grids.{AreKeptBelow}
use Rattle.fz_column.proofs.grid.Grid.keep.Given as goal

-- the rows of the lines so far have one of the numbers
abbrev pub invariant-loop-word : goal.invariant-loop-word
invariant-loop-word l = AreKeptBelow l.self l.numbers l.initial.rows l.rows l.word
