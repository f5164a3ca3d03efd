use Rattle.std.proofs.Common.{ℕ, ◌+◌, ◌<◌, ◌≤◌, length}
use Rattle.fz_trail.specs.Places.{gap_at}
use Rattle.fz_trail.proofs.trail.least_missed.Given as goal

-- no place up to here is missed less
abbrev pub invariant-places : goal.invariant-places
invariant-places g l = ((1 ≤ l.least) × (l.least + 1 < length l.copies)) × ((j : ℕ) → 1 ≤ j → j < l.place → gap_at l.copies l.least ≤ gap_at l.copies j)
