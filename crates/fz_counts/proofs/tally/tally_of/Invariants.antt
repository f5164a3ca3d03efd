use Rattle.std.proofs.Common.{take}
use Rattle.std.specs.Prelude.{◌≡◌, ◌≤◌}
use Rattle.fz_strength.specs.Counts.{fewest, most}
use Rattle.fz_counts.proofs.tally.tally_of.Given as goal

-- those so far
abbrev pub invariant-loop-term : goal.invariant-loop-term
invariant-loop-term l = record {
  fewest : l.fewest ≡ fewest (take l.term-index l.terms) l.store.doms l.value;
  most : l.most ≡ most (take l.term-index l.terms) l.store.doms l.value;
  few : l.fewest ≤ l.term-index;
  many : l.most ≤ l.term-index;
}
