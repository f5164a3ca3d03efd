use Rattle.std.proofs.Common.{take, map}
use Rattle.std.specs.Prelude.{flat_map}
use Rattle.fz_language.specs.Rules.{expression_additions}
use Rattle.fz_language.specs.Rules.{Counts}
use Rattle.fz_syntax.specs.Trees.{expression_of}
use Rattle.fz_syntax.specs.Rooms.{IsRoom, IsSoFar}
use Rattle.fz_syntax.proofs.limits.Room.behind_arguments.Given as goal

-- after those so far
abbrev pub invariant-loop-argument : goal.invariant-loop-argument
invariant-loop-argument l = (n : Counts) → IsRoom l.initial.room n → IsSoFar n (flat_map expression_additions (map expression_of (take l.argument-index l.arguments))) l.room
