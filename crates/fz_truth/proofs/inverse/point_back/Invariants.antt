use Rattle.fz_spec.specs.Constraints.{term_values}
use Rattle.fz_truth.proofs.InverseLaws.{PointBackBefore}
use Rattle.fz_truth.proofs.inverse.point_back.Given as goal

-- those so far stand back
abbrev pub invariant-loop-i : goal.invariant-loop-i
invariant-loop-i l = PointBackBefore l.i (term_values l.values l.terms) (term_values l.values l.others)
