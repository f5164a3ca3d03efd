use Rattle.fz_table.proofs.Keeping.{IsKeeping}
use Rattle.fz_table.proofs.keep.keep_columns.Given as goal

-- the terms so far are kept to their columns
abbrev pub invariant-loop-place : goal.invariant-loop-place
invariant-loop-place l = IsKeeping l.terms l.table l.rows l.initial.store l.store l.has_changed l.place
