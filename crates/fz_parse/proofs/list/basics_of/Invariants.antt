use Rattle.std.proofs.Common.{◌≡◌, map, take}
use Rattle.fz_syntax.specs.Trees.{integer_basic_of, basic_of}
use Rattle.fz_parse.proofs.list.basics_of.Given as goal

-- those so far
abbrev pub invariant-loop-integer : goal.invariant-loop-integer
invariant-loop-integer l = map basic_of l.basics.items ≡ map integer_basic_of (take l.integer-index l.integers)
