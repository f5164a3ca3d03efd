use Rattle.std.proofs.Common.{◌≡◌, ◌≤◌, ◌*◌, ◌^◌, drop}
use Rattle.std.specs.Prelude.{◌+ℤ◌, unsigned_abs}
use Rattle.fz_cumulative.specs.Energies.{energy_in}
use Rattle.fz_cumulative.proofs.energy.energy_in.Given as goal

-- what those so far use, and what the rest does, is what all use
abbrev pub invariant-loop-i : goal.invariant-loop-i
invariant-loop-i l = ((l.total +ℤ energy_in l.window.since l.window.until (drop l.i l.tasks)) ≡ energy_in l.window.since l.window.until l.tasks) × (unsigned_abs l.total ≤ l.i * 2 ^ 66)
