use Rattle.std.proofs.Common.{ℕ, ◌+◌, ◌≤◌, ◌-◌, length, slice_range}
use Rattle.fz_language.specs.Tokens.{IsInside}
use Rattle.fz_lex.proofs.reading.text_at.Given as goal

abbrev pub invariant-string : goal.invariant-string
invariant-string l = (l.at + 1 ≤ l.stop) × (l.stop ≤ length l.text) × ((end : ℕ) → end ≤ length l.text → IsInside (slice_range l.text (l.at + 1) end) → IsInside (slice_range l.text l.stop end))
    × ((end : ℕ) → end ≤ length l.text → IsInside (slice_range l.text l.stop end) → IsInside (slice_range l.text (l.at + 1) end))

abbrev pub decreases-string : goal.decreases-string
decreases-string l = length l.text - l.stop
