use Rattle.std.proofs.Common.{◌≡◌, take}
use Rattle.fz_language.specs.Search.{variables_of_terms}
use Rattle.fz_resolve.proofs.arrays.variables_of.Given as goal

-- those of the terms so far
abbrev pub invariant-loop-term : goal.invariant-loop-term
invariant-loop-term l = l.variables.items ≡ variables_of_terms (take l.term-index l.terms)
