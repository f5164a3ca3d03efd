use Rattle.std.proofs.Common.{take, map}
use Rattle.std.specs.Prelude.{flat_map}
use Rattle.fz_language.specs.Rules.{element_additions}
use Rattle.fz_language.specs.Rules.{Counts}
use Rattle.fz_syntax.specs.Trees.{basic_of}
use Rattle.fz_syntax.specs.Rooms.{IsRoom, IsSoFar}
use Rattle.fz_syntax.proofs.limits.Room.behind_basics.Given as goal

-- after those so far
abbrev pub invariant-loop-basic : goal.invariant-loop-basic
invariant-loop-basic l = (n : Counts) → IsRoom l.initial.room n → IsSoFar n (flat_map element_additions (map basic_of (take l.basic-index l.basics))) l.room
