use Rattle.std.proofs.Common.{◌≡◌, take}
use Rattle.fz_syntax.proofs.Integers.{terms_of}
use Rattle.fz_resolve.proofs.resolve.integer_terms.Given as goal

-- those so far
abbrev pub invariant-loop-integer : goal.invariant-loop-integer
invariant-loop-integer l = l.terms.items ≡ terms_of (take l.integer-index l.integers)
