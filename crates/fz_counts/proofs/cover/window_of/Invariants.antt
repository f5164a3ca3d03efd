use Rattle.std.proofs.Common.{take}
use Rattle.std.specs.Prelude.{◌≡◌}
use Rattle.fz_counts.specs.Covers.{IsWindowOf}
use Rattle.fz_counts.proofs.cover.window_of.Given as goal

-- those so far
abbrev pub invariant-loop-value : goal.invariant-loop-value
invariant-loop-value l = record {
  base : l.window.base ≡ l.base;
  values : IsWindowOf l.window (take l.value-index l.values);
}
