use Rattle.std.proofs.Common.{take, map, [], ◌∷◌}
use Rattle.std.specs.Prelude.{flat_map}
use Rattle.fz_language.specs.Trees.{number_at}
use Rattle.fz_language.specs.Rules.{AnElement}
use Rattle.fz_language.specs.Rules.{Counts}
use Rattle.fz_syntax.specs.Trees.{number_of}
use Rattle.fz_syntax.specs.Rooms.{IsRoom, IsSoFar}
use Rattle.fz_syntax.proofs.limits.Room.behind_numbers.Given as goal

-- after those so far
abbrev pub invariant-loop-member : goal.invariant-loop-member
invariant-loop-member l = (n : Counts) → IsRoom l.initial.room n → IsSoFar n (flat_map (λ m. AnElement (number_at m) ∷ []) (map number_of (take l.member-index l.members))) l.room
