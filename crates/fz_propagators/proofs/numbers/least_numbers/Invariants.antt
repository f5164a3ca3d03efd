use Rattle.std.proofs.Common.{◌≡◌, map, take}
use Rattle.fz_dom.specs.Shape.{least}
use Rattle.fz_propagators.proofs.numbers.least_numbers.Given as goal

-- the least numbers of the domains so far
abbrev pub invariant-loop-dom : goal.invariant-loop-dom
invariant-loop-dom l = l.numbers.items ≡ map least (take l.dom-index l.doms)
