use Rattle.std.proofs.Common.{◌≡◌, ◌+◌, ◌^◌, drop}
use Rattle.std.specs.Prelude.{sum_by, unsigned_abs}
use Rattle.fz_linear.proofs.narrow.precision_of.Given as goal

-- what is left, and the sizes of the factors so far, are the most that there may be
abbrev pub invariant-loop-i : goal.invariant-loop-i
invariant-loop-i l = (l.left + sum_by unsigned_abs l.factors) ≡ (2 ^ 31 + sum_by unsigned_abs (drop l.i l.factors))
