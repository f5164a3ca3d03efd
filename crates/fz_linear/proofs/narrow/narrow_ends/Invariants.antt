use Rattle.std.proofs.Common.{drop}
use Rattle.std.specs.Prelude.{ℤ, pos, ◌≤ℤ◌, sum_by, unsigned_abs}
use Rattle.fz_strength.specs.Sums.{least_sum, greatest_sum, AreNear}
use Rattle.fz_linear.proofs.Narrowing.{IsNarrowed}
use Rattle.fz_linear.proofs.narrow.narrow_ends.Given as goal

-- as of sums in 128 bits, and what the factors of the rest can add stays within 2 ^ 62
abbrev pub invariant-loop-i : goal.invariant-loop-i
invariant-loop-i l = record {
  least : IsNarrowed l.least (least_sum l.store.doms (drop l.i l.factors) (drop l.i l.terms)) (least_sum l.store.doms l.factors l.terms) (sum_by unsigned_abs (drop l.i l.factors));
  near : (slack : ℤ) → pos l.widest ≤ℤ slack → AreNear l.store.doms slack (drop l.i l.factors) (drop l.i l.terms) → AreNear l.store.doms slack l.factors l.terms;
  greatest : IsNarrowed l.greatest (greatest_sum l.store.doms (drop l.i l.factors) (drop l.i l.terms)) (greatest_sum l.store.doms l.factors l.terms) (sum_by unsigned_abs (drop l.i l.factors));
}
