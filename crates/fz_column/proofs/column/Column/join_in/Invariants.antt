use Rattle.fz_column.proofs.Finding.{AreJoining}
use Rattle.fz_column.proofs.Walking.{AreAhead}
use Rattle.fz_column.proofs.column.Column.join_in.Given as goal

-- the rows of the ranges so far are put in
abbrev pub invariant-loop-low : goal.invariant-loop-low
invariant-loop-low l = AreJoining l.self l.dom l.low-iterator l.initial.rows l.rows × AreAhead l.self l.place l.low-iterator
