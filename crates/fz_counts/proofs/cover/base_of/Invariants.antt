use Rattle.std.specs.Prelude.{◌≤ℤ◌, pos}
use Rattle.fz_counts.proofs.cover.base_of.Given as goal

abbrev pub invariant-loop-value : goal.invariant-loop-value
invariant-loop-value l = l.base ≤ℤ pos 2147483583
