use Rattle.std.proofs.Common.{◌≡◌, take, map}
use Rattle.fz_spec.specs.declared.term.Term.TheVariants.{Num}
use Rattle.fz_resolve.proofs.arrays.number_terms.Given as goal

-- those so far
abbrev pub invariant-loop-number : goal.invariant-loop-number
invariant-loop-number l = l.terms.items ≡ map Num (take l.number-index l.numbers)
