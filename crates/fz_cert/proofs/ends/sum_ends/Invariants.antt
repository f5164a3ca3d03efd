use Rattle.std.proofs.Common.{drop}
use Rattle.fz_refutes.specs.Refuted.{least_sum, greatest_sum}
use Rattle.fz_cert.proofs.Summing.{IsSummed}
use Rattle.fz_cert.proofs.ends.sum_ends.Given as goal

-- the sums so far and those of the rest are those of all
abbrev pub invariant-loop-i : goal.invariant-loop-i
invariant-loop-i l = record {
  least : IsSummed l.least (least_sum l.area (drop l.i l.factors) (drop l.i l.terms)) (least_sum l.area l.factors l.terms) l.i;
  greatest : IsSummed l.greatest (greatest_sum l.area (drop l.i l.factors) (drop l.i l.terms)) (greatest_sum l.area l.factors l.terms) l.i;
}
