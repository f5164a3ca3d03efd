use Rattle.std.proofs.Common.{◌≡◌, ◌++◌, map, take}
use Rattle.fz_strength.specs.Clauses.{positive}
use Rattle.fz_bool.proofs.clause.add_positive.Given as goal

-- those of the terms so far
abbrev pub invariant-loop-term : goal.invariant-loop-term
invariant-loop-term l = l.literals.items ≡ l.initial.literals.items ++ map positive (take l.term-index l.terms)
