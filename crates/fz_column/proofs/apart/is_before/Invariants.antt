use Rattle.fz_column.specs.Apart.{IsNotBefore}
use Rattle.fz_column.proofs.apart.is_before.Given as goal

-- it is none of those so far
abbrev pub invariant-loop-before : goal.invariant-loop-before
invariant-loop-before l = IsNotBefore l.terms l.before l.fn.term
