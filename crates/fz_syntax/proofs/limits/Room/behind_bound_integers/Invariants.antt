use Rattle.std.proofs.Common.{take, map}
use Rattle.std.specs.Prelude.{flat_map, true}
use Rattle.fz_language.specs.Rules.{array_element_additions}
use Rattle.fz_language.specs.Rules.{Counts}
use Rattle.fz_syntax.specs.Trees.{integer_basic_of}
use Rattle.fz_syntax.specs.Rooms.{IsRoom, IsSoFar}
use Rattle.fz_syntax.proofs.limits.Room.behind_bound_integers.Given as goal

-- after those so far
abbrev pub invariant-loop-integer : goal.invariant-loop-integer
invariant-loop-integer l = (n : Counts) → IsRoom l.initial.room n → IsSoFar n (flat_map (array_element_additions true) (map integer_basic_of (take l.integer-index l.integers))) l.room
