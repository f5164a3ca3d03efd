use Rattle.std.proofs.Common.{take}
use Rattle.std.specs.Prelude.{◌≡◌}
use Rattle.fz_counts.specs.Covers.{lowest, highest}
use Rattle.fz_counts.proofs.Totals.{IsSumOf}
use Rattle.fz_counts.proofs.ends.ends_of.Given as goal

-- the sums so far
abbrev pub invariant-loop-term : goal.invariant-loop-term
invariant-loop-term l = record {
  lowest : l.lowest ≡ lowest l.store.doms (take l.term-index l.terms);
  highest : l.highest ≡ highest l.store.doms (take l.term-index l.terms);
  low : IsSumOf l.term-index l.lowest;
  high : IsSumOf l.term-index l.highest;
}
