use Rattle.std.proofs.Common.{◌≡◌, ◌<◌, ℕ, get_or}
use Rattle.fz_column.proofs.row_set.is_empty.Given as goal

-- the words so far have no bit
abbrev pub invariant-loop-word : goal.invariant-loop-word
invariant-loop-word l = (p : ℕ) → p < l.word-index → get_or l.rows p 0 ≡ 0
