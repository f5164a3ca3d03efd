use Rattle.std.proofs.Common.{◌≡◌, take, map}
use Rattle.fz_syntax.specs.declared.leaf.Integer.{Integer}
use Rattle.fz_resolve.proofs.resolve.integer_values.Given as goal

-- those so far
abbrev pub invariant-loop-integer : goal.invariant-loop-integer
invariant-loop-integer l = l.values.items ≡ map (λ (i : Integer). i.value) (take l.integer-index l.integers)
