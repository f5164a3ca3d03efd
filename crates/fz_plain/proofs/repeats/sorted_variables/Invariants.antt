use Rattle.std.proofs.Common.{◌≡◌, ◌++◌, drop}
use Rattle.fz_strength.specs.Events.{variables_of}
use Rattle.fz_strength.specs.Sums.{left_terms}
use Rattle.fz_plain.proofs.repeats.sorted_variables.Given as goal

-- with those that are left they are all
abbrev pub invariant-loop-term : goal.invariant-loop-term
invariant-loop-term l = l.variables.items ++ variables_of (drop l.term-index l.terms) ≡ variables_of (left_terms l.terms l.fn.last)
