use Rattle.std.proofs.Common.{length, map}
use Rattle.fz_spec.specs.Constraints.{term_value}
use Rattle.fz_truth.proofs.SumLaws.{IsSummed}
use Rattle.fz_truth.proofs.sums.weighted_sum.Given as goal

-- the sum of the products so far
abbrev pub invariant-loop-coefficient : goal.invariant-loop-coefficient
invariant-loop-coefficient l = IsSummed l.coefficients (map (term_value l.values) l.terms) (length l.yielded) l.sum
