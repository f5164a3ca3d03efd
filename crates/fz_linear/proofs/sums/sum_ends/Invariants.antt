use Rattle.std.proofs.Common.{drop}
use Rattle.std.specs.Prelude.{ℤ, pos, ◌≤ℤ◌}
use Rattle.fz_strength.specs.Sums.{least_sum, greatest_sum, AreNear}
use Rattle.fz_linear.proofs.Summing.{IsSummed}
use Rattle.fz_linear.proofs.sums.sum_ends.Given as goal

-- the sums so far and those of the rest are those of all, and a slack that leaves the terms of the rest leaves all
abbrev pub invariant-loop-i : goal.invariant-loop-i
invariant-loop-i l = record {
  least : IsSummed l.least (least_sum l.store.doms (drop l.i l.factors) (drop l.i l.terms)) (least_sum l.store.doms l.factors l.terms) l.i;
  near : (slack : ℤ) → pos l.widest ≤ℤ slack → AreNear l.store.doms slack (drop l.i l.factors) (drop l.i l.terms) → AreNear l.store.doms slack l.factors l.terms;
  greatest : IsSummed l.greatest (greatest_sum l.store.doms (drop l.i l.factors) (drop l.i l.terms)) (greatest_sum l.store.doms l.factors l.terms) l.i;
}
