use Rattle.std.proofs.Common.{◌≡◌, map, take}
use Rattle.fz_hall.specs.Lefts.{turn}
use Rattle.fz_hall.proofs.lefts.turned.Given as goal

-- those so far
abbrev pub invariant-loop-left : goal.invariant-loop-left
invariant-loop-left l = l.turned.items ≡ map turn (take l.left-index l.lefts)
