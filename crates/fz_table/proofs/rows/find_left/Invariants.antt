use Rattle.std.proofs.Common.{◌≡◌, length}
use Rattle.fz_table.proofs.LeftRows.{AreLeftBy, IsFixedBelow, IsFixedOrBelow}
use Rattle.fz_table.proofs.rows.find_left.Given as goal

-- the rows that are left at the fixed places so far
abbrev pub invariant-loop-place : goal.invariant-loop-place
invariant-loop-place l = AreLeftBy l.terms l.table l.store.doms l.left (IsFixedBelow l.store.doms l.place) × (length l.found ≡ length l.left)

-- the rows that are left at the fixed places, and at all so far
abbrev pub invariant-loop-place-2 : goal.invariant-loop-place-2
invariant-loop-place-2 l = AreLeftBy l.terms l.table l.store.doms l.left (IsFixedOrBelow l.store.doms l.place) × (length l.found ≡ length l.left)
