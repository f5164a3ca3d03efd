use Rattle.std.proofs.Common.{ℕ, ◌≢◌, ◌<◌, ◌≤◌, ◌-◌, length, slice_index}
use Rattle.fz_lex.proofs.blanks.comment_end.Given as goal

abbrev pub invariant-line : goal.invariant-line
invariant-line l = (l.from < l.at) × (l.at ≤ length l.text) × ((k : ℕ) → l.from < k → k < l.at → slice_index l.text k ≢ 10)

abbrev pub decreases-line : goal.decreases-line
decreases-line l = length l.text - l.at
