use Rattle.std.specs.Prelude.{ℕ, ◌<◌, length, pos}
use Rattle.fz_bits.specs.Words.{HasBit}
use Rattle.fz_dom.specs.Places.{bit_ranges}
use Rattle.fz_shift.proofs.Leaving.{HasKept, IsStill}
use Rattle.fz_shift.proofs.far.exclude.Given as goal

-- the numbers of the word that are no longer left are gone
abbrev pub invariant-runs : goal.invariant-runs
invariant-runs l = record {
  kept : HasKept l.variable (IsStill l.base l.word l.left) l.initial.store l.store;
  among : (i : ℕ) → i < 64 → HasBit l.left i → HasBit l.word i;
}

abbrev pub decreases-runs : goal.decreases-runs
decreases-runs l = length (bit_ranges (pos 0) l.left)
