use Rattle.fz_regular.specs.BitRows.{HaveBoth}
use Rattle.fz_regular.proofs.Words.{AreClear}
use Rattle.fz_regular.proofs.bit_rows.BitRows.first_common.Given as goal

-- none is set in both rows in the words so far
abbrev pub invariant-loop-place : goal.invariant-loop-place
invariant-loop-place l = AreClear (λ k. HaveBoth l.self l.row l.other l.other_row k) l.first l.place
