use Rattle.std.proofs.Common.{take}
use Rattle.std.specs.Prelude.{◌≤◌}
use Rattle.fz_counts.specs.Covers.{AreSoMany, IsInside, MayCount}
use Rattle.fz_counts.proofs.standing.cover_tally.Given as goal

-- those so far
abbrev pub invariant-loop-term : goal.invariant-loop-term
invariant-loop-term l = record {
  fewest : AreSoMany (IsInside l.cover l.store.doms) (take l.term-index l.terms) l.fewest;
  most : AreSoMany (MayCount l.cover l.store.doms) (take l.term-index l.terms) l.most;
  few : l.fewest ≤ l.term-index;
  many : l.most ≤ l.term-index;
}
