use Rattle.std.proofs.Common.{◌≡◌, ◌≤◌, ◌*◌, ◌^◌, drop}
use Rattle.std.specs.Prelude.{◌+ℤ◌, unsigned_abs}
use Rattle.fz_strength.specs.Cumulatives.{parts_at}
use Rattle.fz_cumulative.proofs.tasks.parts_at.Given as goal

-- what those so far use, and what the rest does, is what all use
abbrev pub invariant-loop-i : goal.invariant-loop-i
invariant-loop-i l = ((l.load +ℤ parts_at l.time (drop l.i l.tasks)) ≡ parts_at l.time l.tasks) × (unsigned_abs l.load ≤ l.i * 2 ^ 32)
