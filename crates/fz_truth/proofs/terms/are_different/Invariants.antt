use Rattle.std.proofs.Common.{drop}
use Rattle.fz_spec.specs.Constraints.{term_values}
use Rattle.fz_spec.specs.Truth.{AreDifferent}
use Rattle.fz_truth.proofs.terms.are_different.Given as goal

-- the values differ if those from here on do
abbrev pub invariant-loop-i : goal.invariant-loop-i
invariant-loop-i l = AreDifferent (term_values l.values (drop l.i l.terms)) → AreDifferent (term_values l.values l.terms)
