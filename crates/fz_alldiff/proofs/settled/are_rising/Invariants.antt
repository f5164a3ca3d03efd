use Rattle.std.proofs.Common.{ℕ, pos, ◌+◌, ◌<◌, ◌<ℤ◌}
use Rattle.std.specs.Prelude.{slice_index_or}
use Rattle.fz_alldiff.proofs.settled.are_rising.Given as goal

-- those so far rise
abbrev pub invariant-loop-next : goal.invariant-loop-next
invariant-loop-next l = (k : ℕ) → k + 1 < l.next → (slice_index_or l.entries k (pos 0, 0)).0 <ℤ (slice_index_or l.entries (k + 1) (pos 0, 0)).0
